use Rattle.std.proofs.Common.{take}
use Rattle.network.specs.Sheets.{spread}
use Rattle.network.specs.Writing.{Puts}
use Rattle.network.proofs.sheets.writing.put_list.Given as goal

abbrev pub invariant-loop-station : goal.invariant-loop-station
invariant-loop-station l = Puts l.initial.writer l.writer (spread l.counts.bits (take l.station-index l.order))
