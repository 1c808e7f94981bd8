use Rattle.std.proofs.Common.{ℕ, List, ◌/◌, ◌<◌, ◌≤◌, Option, Some, None, MatchOption, rules}
use Rattle.elimination.specs.Words.{WordFirst, WordNone, in_row}
use Rattle.network.specs.Laws.{FirstIs}
use Rattle.elimination.proofs.RangeSearch.{first_mapped}
use Rattle.elimination.proofs.RowTests.{first-none, first-some}
use Rattle.elimination.proofs.words.first_in.Goals as goal

first-of : (row : List ℕ) (from : ℕ) (r : Option ℕ)
    → MatchOption r ((k : ℕ) → from / 64 ≤ k → k < 8 → WordNone row from k) (λ x. (k : ℕ) × (from / 64 ≤ k) × (k < 8) × WordFirst row from k x × ((i : ℕ) → from / 64 ≤ i → i < k → WordNone row from i))
    → FirstIs (in_row row) from 512 r
first-of row from None h = first-none row from h
first-of row from (Some x) h = first-some row from h.0 x h.2 h.3 h.4

pub returns : goal.returns
returns c =
    let row = c.args.row.now in
    first-of row c.args.from c.find_map.result
    (first_mapped _ (record { start = c.args.from / 64; end = 8 }) c.find_map.result (WordNone row c.args.from) (WordFirst row c.args.from) (λ a x q call. search rules) (λ k call. search rules) (λ k y call. search rules) c.find_map.ensures.runs)
