-- How a plan takes over the couplings of its network.
use Rattle.std.specs.Prelude.{ℕ, ◌&&◌, ◌||◌, ◌==◌, nat_lt}
use Rattle.elimination.specs.Graphs.{Graph}

-- the pairs of G that a forms with stations below b
abbrev pub pairs_below : Graph → ℕ → ℕ → Graph
pairs_below G a b x y = G x y && ((x == a && nat_lt y b) || (y == a && nat_lt x b))
