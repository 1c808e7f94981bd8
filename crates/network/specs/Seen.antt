-- Which stations a walk has come upon.
use Rattle.std.specs.Prelude.{ℕ, Bool, false, slice_index_or}
use Rattle.network.specs.declared.seen.Seen.{Seen}

abbrev pub is_seen : Seen → ℕ → Bool
is_seen seen v = slice_index_or seen.marks v false
