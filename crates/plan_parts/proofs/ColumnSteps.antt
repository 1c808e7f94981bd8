-- What a walk along a column has left before and after a step, in the forms that its goals take.
use Rattle.std.proofs.Common.{◌≡◌, ℕ, ◌+◌, [], ◌∷◌, Some, None}
use Rattle.network.specs.Laws.{FirstIs}
use Rattle.elimination.specs.Words.{members_from}
use Rattle.elimination.proofs.MemberWalks.{members-first, members-none}
use Rattle.plan_parts.specs.Reserves.{has_place}
use Rattle.plan_parts.specs.ReserveView.{filled_in, size_in}
use Rattle.plan_parts.specs.declared.reserve.column.Column.{Column}

module _ (s : Column) where
  -- the first row that is left comes first
  pub left_first : (i : ℕ) → FirstIs (has_place (filled_in s.reserve.now) (size_in s.reserve.now) s.column) s.from 512 (Some i)
      → members_from (has_place (filled_in s.reserve.now) (size_in s.reserve.now) s.column) s.from ≡ i ∷ members_from (has_place (filled_in s.reserve.now) (size_in s.reserve.now) s.column) (i + 1)
  left_first i f = members-first (has_place (filled_in s.reserve.now) (size_in s.reserve.now) s.column) s.from i f

  -- no row is left
  pub left_none : FirstIs (has_place (filled_in s.reserve.now) (size_in s.reserve.now) s.column) s.from 512 None
      → members_from (has_place (filled_in s.reserve.now) (size_in s.reserve.now) s.column) s.from ≡ []
  left_none f = members-none (has_place (filled_in s.reserve.now) (size_in s.reserve.now) s.column) s.from f
