-- What the logger finds: the numbers of a sheet that was read, and that it is written again as it was.
use Rattle.std.specs.Prelude.{ℕ, true, cond, List, ◌∷◌, ◌++◌, length, drop, codes, decimal, Ok, Err, Result, nat_lt}
use Rattle.std.specs.Str.{bytes_eq}
use Rattle.network.specs.Encode.{bytes_of}
use Rattle.network.specs.Net.{Net}
use Rattle.network.specs.Refusals.{Fault, at}
use Rattle.network.specs.Sheets.{Sheet, pairs_to}
use Rattle.logger.specs.declared.report.Report.{Report}

-- the report on a network and an order that were written, beside the bytes of a sheet
abbrev pub report_of : Net → List ℕ → List ℕ → Report
report_of net order bytes = record {
  stations = net.size;
  couplings = length (pairs_to net.coupled net.size);
  bytes = length (bytes_of net order);
  same = bytes_eq bytes (bytes_of net order);
}

-- the outcome for bytes and a second buffer of the given length: a refusal of the sheet, then of the buffer, else the
-- report, which always says that the bytes came out the same
abbrev pub inspected : Result Sheet Fault → List ℕ → ℕ → Result Report Fault
inspected (Err f) bytes room = Err f
inspected (Ok s) bytes room =
    cond (nat_lt room (length bytes)) (Err (at 16 (length bytes)))
    (Ok (record { stations = s.size; couplings = length s.couplings; bytes = length bytes; same = true }))

-- the second buffer afterwards: the sheet's own bytes, and its tail
abbrev pub again_after : Result Sheet Fault → List ℕ → List ℕ → List ℕ
again_after (Err f) bytes old = old
again_after (Ok s) bytes old = cond (nat_lt (length old) (length bytes)) old (bytes ++ drop (length bytes) old)

-- the two lines that a report prints, with a line end between them
abbrev pub report_text : Report → List ℕ
report_text r =
    codes "stations " ++ decimal r.stations ++ codes " couplings " ++ decimal r.couplings ++ codes " bytes " ++ decimal r.bytes
    ++ (10 ∷ codes "written again: ") ++ cond r.same (codes "the same " ++ decimal r.bytes ++ codes " bytes") (codes "other bytes")
