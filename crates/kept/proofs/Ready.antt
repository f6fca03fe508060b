-- What an accepted call tells: memory is sized and in form, every test passed, and the effect can be carried out.
use mathlib.Core.Path.{◌≡◌}
use mathlib.Core.Bool.{Bool, not, true, false, ◌&&◌}
use mathlib.Core.Logic.{◌⊎◌, inl, inr}
use mathlib.Core.List.{List, [], ◌∷◌}
use Prim.Native.Nat.{ℕ, ◌*◌, ◌<◌}
use native.Mathlib.Omega.{arith}
use lib.Dec.{T, eqb, lt→ltb, ltb, leb→le, ltb→lt}
use lib.ListN.{length, length-append}
use Rattle.rules.specs.Tests.{pick, all, first}
use Rattle.rules.specs.Words.{bal_in, tube_in, Msg, m1a, m1c, m2av, m2b, Room, State}
use Rattle.rules.specs.Lent.{Memory, board_of, cell_at, meaning_cell, place, room_of, row_in, read, Typed, counts, long, limits, plain_cell, good_cell, house_form, board_form, cell_form, cells_form, heard_form, in_form}
use Rattle.rules.specs.Steps.{Post, p1b, p2av, p2b, other, Call, scan, c1a, c1b, c1c, c2av, c2b, hear, foreign, ask, book, has, fits, scanned_in, without, told, posted, effect}
use Rattle.rules.specs.Replies.{pairs_plain, post_in, fields, tubes, needs, rules, areas, tests, reply}
use Rattle.rules.proofs.Sound.{and_l, and_r, or_cases, clear, Clear, and_two}
use Rattle.rules.proofs.Codec.{Small, cell_back, length_board, At, in_at, place_in, length-scans}
use Rattle.rules.proofs.Forms.{small}
use Rattle.kept.proofs.Lists.{all_more, all-below}
use Rattle.kept.proofs.Cells.{fine}
use Rattle.kept.proofs.Sim.{Sized, Sendable, Ready}

-- ---- memory

pub sized : (m : Memory) → Typed m.house → T (counts m.house) → T (long m) → Sized m
unfolding counts long
sized m t p q = record {
  board = search (leb→le, and_l, and_r) depth 9;
  cells = search (leb→le, and_l, and_r) depth 9;
  heard = search (leb→le, and_l, and_r) depth 9;
  count = search (leb→le, and_l, and_r) depth 9;
  capacity = search (leb→le, and_l, and_r) depth 9;
  stations = t.stations;
  serials = t.serials;
}

pub record Form (m : Memory) : Type 0 where
  pub house : T (house_form m)
  pub board : T (board_form m)
  pub cells : T (cells_form m)
  pub heard : T (heard_form m)

pub form : (m : Memory) → T (in_form m) → Form m
unfolding in_form
form m t = record { house = search (and_l, and_r) depth 9; board = search (and_l, and_r) depth 9; cells = search (and_l, and_r) depth 9; heard = search (and_l, and_r) depth 9 }

-- a cell that the room has is a good one
pub cell_good : (m : Memory) (r n : ℕ) → Form m → At (room_of m.house) r n → T (good_cell m.house.tubes ((read m).cells r n))
unfolding cells_form
cell_good m r n f p =
    let h = m.house in
    let k = place h.rows r n in
    let t = all-below (cell_form h.tubes m.cells) (h.nodes * h.rows) f.cells k (place_in h.nodes h.rows r n p.low p.high p.node) in
    rw (in_at (room_of h) r n p) (and_r (plain_cell m.cells k) (good_cell h.tubes (meaning_cell (cell_at m.cells k))) t)

-- as many scans as tubes
pub length_intake : (m : Memory) → length (read m).intake ≡ m.house.tubes
length_intake m = length-scans m.house.stations m.house.serials m.house.tubes

-- ---- the tests of an accepted call

pub record Passed (m : Memory) (c : Call) : Type 0 where
  pub size : Sized m
  pub form : Form m
  pub fields : T (fields (room_of m.house) (read m) c)
  pub tubes : T (tubes (read m) c)
  pub needs : Clear (needs (room_of m.house) (read m) c)

-- the number of a rule is not 0, nor 5 or 17
abbrev pub own : ℕ → Bool
own k = ltb 5 k && not (eqb k 17)

pub owned : (ρ : Room) (s : State) (c : Call) → T (all (λ (x : Bool × ℕ). own x.1) (needs ρ s c))
owned ρ s (scan a b) = tt
owned ρ s (c1a r b) = tt
owned ρ s (c1b r n b) = tt
owned ρ s (c1c r b v) = tt
owned ρ s (c2av r n b v) = tt
owned ρ s (c2b r n b v) = tt
owned ρ s (hear n k) = tt
owned ρ s (foreign p) = tt
owned ρ s (ask r) = tt
owned ρ s (book p q) = tt

numbered : (k : ℕ) → T (own k) → T (ltb 0 k)
numbered k t = let l = ltb→lt 5 k (and_l (ltb 5 k) (not (eqb k 17)) t) in lt→ltb 0 k (omega arith)

tests_clear : (m : Memory) (c : Call) → reply m c ≡ 0 → Clear (tests m c)
unfolding reply
tests_clear m c e =
    let l = needs (room_of m.house) (read m) c in
    clear (tests m c) (all_more (λ (x : Bool × ℕ). own x.1) (λ (x : Bool × ℕ). ltb 0 x.1) l (λ x t. numbered x.1 t) (owned (room_of m.house) (read m) c)) e

pub passed : (m : Memory) (c : Call) → Typed m.house → reply m c ≡ 0 → Passed m c
passed m c t e =
    let z = tests_clear m c e in record {
      size = sized m t z.0 (and_l (long m) (areas m.house c) z.1.0);
      form = form m z.1.1.0;
      fields = z.1.1.1.0;
      tubes = z.1.1.1.1.0;
      needs = z.1.1.1.1.1;
    }

pub drop_test : (b : Bool) (k : ℕ) {x : ℕ} → T b → pick b x k ≡ 0 → x ≡ 0
drop_test true k t e = e
drop_test false k t e = absurd t

-- a call that memory accepts, the room accepts
pub allowed : (m : Memory) (c : Call) → reply m c ≡ 0 → first (rules (room_of m.house) (read m) c) ≡ 0
unfolding reply
allowed m c e =
    let z = tests_clear m c e in
    drop_test (in_form m) 17 z.1.1.0 (drop_test (long m && areas m.house c) 5 z.1.0 (drop_test (counts m.house) 17 z.0 e))

-- ---- the effect can be carried out

sendable : (m : Memory) (x : Msg) → Small x → T (fits (room_of m.house) (read m) x) → Sendable m x
sendable m x s t = record { small = s; place = λ e. go e (or_cases (has x B) (ltb (length B) m.house.capacity) t) }
  where
    B : List Msg
    B = board_of m.board m.house.count

    go : has x B ≡ false → T (has x B) ⊎ T (ltb (length B) m.house.capacity) → m.house.count < m.house.capacity
    go e (inl u) = absurd (rw e at u)
    go e (inr u) = let l = ltb→lt (length B) m.house.capacity u in omega (arith, length_board m.board m.house.count)

-- a row, a node, a ballot and a tube in their limits
pub at_row : (ρ : Room) (r n b : ℕ) → T ((row_in ρ r && bal_in b) && ltb n ρ.nodes) → At ρ r n × T (bal_in b)
at_row ρ r n b t = (record { low = search (leb→le, and_l, and_r) depth 9; high = search (leb→le, and_l, and_r) depth 9; node = search (ltb→lt, and_l, and_r) depth 9 }, search (and_l, and_r) depth 9)

pub at_2 : (ρ : Room) (r n b v : ℕ) → T ((row_in ρ r && bal_in b) && (ltb n ρ.nodes && tube_in v)) → At ρ r n × T (bal_in b) × T (tube_in v)
at_2 ρ r n b v t =
    let A = row_in ρ r && bal_in b in
    let N = ltb n ρ.nodes in
    let q = and_r A (N && tube_in v) t in
    let p = at_row ρ r n b (and_two A N (and_l A (N && tube_in v) t) (and_l N (tube_in v) q)) in
    (p.0, p.1, and_r N (tube_in v) q)

-- what a foreign post puts is within limits
pub post-limits : (ρ : Room) (p : Post) → T (post_in ρ p) → T (limits ρ (posted p))
post-limits ρ (p1b r b n x y k l) t = and_l (limits ρ (posted (p1b r b n x y k l))) (pairs_plain k l) t
post-limits ρ (p2av r b n v) t = t
post-limits ρ (p2b r b n v) t = t
post-limits ρ other t = absurd t

pub ready : (m : Memory) (c : Call) → Passed m c → Ready m (effect (read m) c)
unfolding fields limits
ready m (scan a b) p = λ k. go k (or_cases (scanned_in (read m).intake a b) (ltb (length (read m).intake) 64) p.needs.0)
  where
    go : scanned_in (read m).intake a b ≡ false → T (scanned_in (read m).intake a b) ⊎ T (ltb (length (read m).intake) 64) → m.house.tubes < 64
    go k (inl u) = absurd (rw k at u)
    go k (inr u) = let l = ltb→lt (length (read m).intake) 64 u in omega (arith, length_intake m)
ready m (c1a r b) p = sendable m (m1a r b) tt p.needs.0
ready m (c1b r n b) p =
    let a = at_row (room_of m.house) r n b p.fields in
    let h = leb→le b 15 a.1 in
    let f = fine m.house.tubes ((read m).cells r n) (cell_good m r n p.form a.0) in
    (sendable m (told (read m) r n b) (omega (arith, f.vbal), f.pairs) p.needs.1.1.0, (a.0, cell_back _ (omega arith) (omega (arith, f.vbal)) f.pairs))
ready m (c1c r b v) p = sendable m (m1c r b v) tt p.needs.0
ready m (c2av r n b v) p =
    let a = at_2 (room_of m.house) r n b v p.fields in
    let h = leb→le b 15 a.1 in
    let f = fine m.house.tubes ((read m).cells r n) (cell_good m r n p.form a.0) in
    let ps = without v ((read m).cells r n).pairs in
    let l = ltb→lt (length ps) 16 p.needs.1.1.1.1.0 in
    (sendable m (m2av r b n v) tt p.needs.1.1.1.1.1.0, (a.0, cell_back _ (omega arith) (omega (arith, f.vbal)) (omega (arith, length-append ps ((v, b) ∷ [])))))
ready m (c2b r n b v) p =
    let a = at_2 (room_of m.house) r n b v p.fields in
    let h = leb→le b 15 a.1 in
    let f = fine m.house.tubes ((read m).cells r n) (cell_good m r n p.form a.0) in
    (sendable m (m2b r b n v) tt p.needs.1.1.0, (a.0, cell_back _ (omega arith) (omega arith) f.pairs))
ready m (hear n k) p =
    let B = length (read m).board in
    let u = ltb→lt n m.house.nodes (and_l (ltb n m.house.nodes) (ltb k B) p.fields) in
    let v = ltb→lt k B (and_r (ltb n m.house.nodes) (ltb k B) p.fields) in
    (u, omega (arith, length_board m.board m.house.count, p.size.count, p.size.capacity))
ready m (foreign p) q = sendable m (posted p) (small (room_of m.house) (posted p) (post-limits (room_of m.house) p q.fields)) q.needs.0
ready m (ask r) p = tt
ready m (book p q) r = tt
