-- A sheet network by the sheet that it stands on.
use Rattle.network.specs.declared.sheets.SheetNetwork.{SheetNetwork}
use Rattle.network.specs.Decode.{sheet_of}
use Rattle.network.specs.Sheets.{Sheet}

abbrev pub sheet_in : SheetNetwork → Sheet
sheet_in network = sheet_of network.bytes.now network.counts.stations network.counts.couplings
