-- The bits of a number, the lowest at 0, and counts of what passes a test.
use Rattle.std.specs.Prelude.{ℕ, zero, suc, ◌+◌, ◌/◌, ◌%◌, ◌^◌, Bool, cond, ◌==◌}

-- whether the bit k of the number n is set
unfoldable pub bit_at : ℕ → ℕ → Bool
bit_at n k = n / 2 ^ k % 2 == 1

-- how many of the numbers below n pass the test p
unfoldable pub count_to : (ℕ → Bool) → ℕ → ℕ
count_to p zero = 0
count_to p (suc n) = count_to p n + cond (p n) 1 0
