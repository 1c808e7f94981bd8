-- The meaning of a network: how many stations it has, and which two of them are coupled.
use Rattle.std.specs.Prelude.{◌≡◌, ℕ, zero, suc, ◌-◌, ◌<◌, ◌≤◌, Bool, true, false, cond, Some, None, Option}

pub record Net : Type 0 where
  pub size : ℕ
  pub coupled : ℕ → ℕ → Bool

-- A network has 1 to 512 stations, numbered from 0; a coupling is an unordered pair of two different ones.
pub record Lawful (net : Net) : Type 0 where
  pub some : 1 ≤ net.size
  pub few : net.size ≤ 512
  pub symmetric : (a b : ℕ) → net.coupled a b ≡ net.coupled b a
  pub irreflexive : (a : ℕ) → net.coupled a a ≡ false
  pub within : (a b : ℕ) → net.coupled a b ≡ true → a < net.size

-- the first of the k numbers from t on that passes the test
unfoldable pub first_from : (ℕ → Bool) → ℕ → ℕ → Option ℕ
first_from test t zero = None
first_from test t (suc k) = cond (test t) (Some t) (first_from test (suc t) k)

-- the smallest station not below `from` that is coupled with `station`, or none
unfoldable pub next_coupled : Net → ℕ → ℕ → Option ℕ
next_coupled net station from = first_from (net.coupled station) from (net.size - from)
