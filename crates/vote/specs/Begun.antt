-- The tests that a 2av and a 2b begin with.
use Rattle.std.specs.Prelude.{[], ◌∷◌, ℕ, suc, leb}
use Rattle.rules.specs.Tests.{first}
use Rattle.rules.specs.Words.{m2av}
use Rattle.rules.specs.Lent.{Memory, room_of, read, limits}

-- 6, 7 and 8 for row r, node n, ballot b and tube v
unfoldable pub begun : Memory → ℕ → ℕ → ℕ → ℕ → ℕ
begun m r n b v = first ((limits (room_of m.house) (m2av r b n v), 6) ∷ (leb v m.house.tubes, 7) ∷ (leb ((read m).cells r n).max_bal (suc b), 8) ∷ [])
