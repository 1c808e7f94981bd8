-- A walk along one column of a reserve, as the positions that it has left and as what each of its steps gives.
use Rattle.std.specs.Prelude.{◌≡◌, ℕ, ◌+◌, List, Option, MatchOption}
use Rattle.std.specs.Iterator.{YieldsFirst}
use Rattle.network.specs.Laws.{FirstIs}
use Rattle.elimination.specs.Words.{members_from}
use Rattle.plan_parts.specs.Reserves.{has_place}
use Rattle.plan_parts.specs.ReserveView.{filled_in, size_in}
use Rattle.plan_parts.specs.declared.reserve.column.Column.{Column}

-- the rows that a walk has left: those not below `from` that have a place in the column, by rising number
abbrev pub left_in : Column → List ℕ
left_in c = members_from (has_place (filled_in c.reserve.now) (size_in c.reserve.now) c.column) c.from

-- a step gives the first row that is left, and the walk goes on behind it; or no row is left, and the walk stays where it is
abbrev pub Walks : Column → Option ℕ → Column → Type 0
Walks s r t =
    YieldsFirst left_in s r t
    × FirstIs (has_place (filled_in s.reserve.now) (size_in s.reserve.now) s.column) s.from 512 r
    × (t.reserve ≡ s.reserve)
    × (t.column ≡ s.column)
    × MatchOption r (t.from ≡ s.from) (λ i. t.from ≡ i + 1)
