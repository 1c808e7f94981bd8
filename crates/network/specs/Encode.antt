-- What a writing of a network and an order as a sheet answers, and what it leaves in the buffer.
use Rattle.std.specs.Prelude.{ℕ, cond, List, ◌++◌, length, drop, Some, None, Option, nat_lt}
use Rattle.network.specs.Net.{Net}
use Rattle.network.specs.Orders.{order_fault}
use Rattle.network.specs.Refusals.{Fault, refuse, or_else}
use Rattle.network.specs.Sheets.{sheet_from, encode}

-- the bytes of the sheet of a network and an order
abbrev pub bytes_of : Net → List ℕ → List ℕ
bytes_of net order = encode (sheet_from net order)

-- the list as an order first, then the length l of the buffer
unfoldable pub write_fault : Net → List ℕ → ℕ → Option Fault
write_fault net order l =
    or_else (order_fault order net.size)
    (cond (nat_lt l (length (bytes_of net order))) (refuse 16 (length (bytes_of net order))) None)

-- the buffer after the writing: the sheet and the buffer's tail, or as it was
abbrev pub buffer_after : Option Fault → List ℕ → List ℕ → List ℕ
buffer_after (Some f) bytes old = old
buffer_after None bytes old = bytes ++ drop (length bytes) old
