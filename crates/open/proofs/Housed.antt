-- What a room has that a house record has room for.
use mathlib.Core.Path.{◌≡◌}
use mathlib.Core.Bool.{true}
use mathlib.Core.List.{List}
use Prim.Native.Nat.{ℕ, ◌≤◌, ◌<◌}
use lib.Dec.{T, leb→le}
use lib.ListN.{length, get_or}
use Rattle.rules.specs.Tests.{all}
use Rattle.rules.specs.Words.{Room}
use Rattle.rules.specs.Lent.{present}
use Rattle.rules.specs.Replies.{room_counts}
use Rattle.rules.proofs.Sound.{and_l, and_r}
use Rattle.open.specs.Room.{Housed}
use Rattle.tables.proofs.Lists.{set_bytes}

-- counts in their limits
pub record Sizes (ρ : Room) : Type 0 where
  pub nodes : ρ.nodes ≤ 8
  pub faulty : ρ.faulty ≤ 7
  pub rows : ρ.rows ≤ 64
  pub capacity : ρ.capacity ≤ 1024
  pub quorums : length ρ.quorums ≤ 64
  pub weaks : length ρ.weaks ≤ 64

pub sizes_of : (ρ : Room) → room_counts ρ ≡ true → Sizes ρ
sizes_of ρ e = let t : T (room_counts ρ) = rw e tt in
    record {
      nodes = search (leb→le, and_l, and_r) depth 9;
      faulty = search (leb→le, and_l, and_r) depth 9;
      rows = search (leb→le, and_l, and_r) depth 9;
      capacity = search (leb→le, and_l, and_r) depth 9;
      quorums = search (leb→le, and_l, and_r) depth 9;
      weaks = search (leb→le, and_l, and_r) depth 9;
    }

pub sizes : {ρ : Room} → Housed ρ → Sizes ρ
sizes {ρ} h = sizes_of ρ h.counts

-- its sets are bytes
pub bytes : {ρ : Room} → Housed ρ → (l : List ℕ) → all (present ρ) l ≡ true → (k : ℕ) → get_or l k 0 < 256
bytes {ρ} h l e = set_bytes ρ.nodes l (sizes h).nodes e
