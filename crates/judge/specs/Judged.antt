-- What a call is answered once memory passed the gate.
use Rattle.std.specs.Prelude.{ℕ}
use Rattle.rules.specs.Tests.{first}
use Rattle.rules.specs.Lent.{Memory, room_of, read}
use Rattle.rules.specs.Steps.{Call}
use Rattle.rules.specs.Replies.{rules}

-- the number of the first of 6, 7 and the call's own tests that fails, 0 if none does
unfoldable pub verdict : Memory → Call → ℕ
verdict m c = first (rules (room_of m.house) (read m) c)
