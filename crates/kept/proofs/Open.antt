-- An opening that was done leaves the room that was asked for, empty, in memory in form.
use mathlib.Core.Path.{◌≡◌, refl, ap, sym, subst, fun_ext}
use mathlib.Core.Bool.{Bool, true, false, not, ◌&&◌, ◌||◌}
use mathlib.Core.List.{List, [], ◌∷◌, ◌++◌, append_assoc}
use Prim.Native.Nat.{ℕ, zero, suc, ◌+◌, ◌*◌, ◌/◌, ◌%◌, ◌^◌, ◌≤◌, ◌<◌}
use native.Mathlib.Omega.{arith}
use borrow.Author.Tests.{eq-eqb, ltb-true}
use lib.Dec.{T, eqb, ltb, leb→le, le→leb, lt→ltb}
use lib.ListN.{length, get_or, take, drop}
use lib.Pow.{pow_pos}
use lib.Seq.{drop-append-add, take_at}
use Rattle.rules.specs.Tests.{pick, all_below, eqs, many, first}
use Rattle.rules.specs.Words.{fresh, Room}
use Rattle.rules.specs.Lent.{Memory, cell_of, encode, cell_at, meaning_cell, stored_cell, place, heard_at, room_of, in_room, read, tables, counts, long, plain_cell, good_cell, cell_form, house_form, board_form, cells_form, bit_form, heard_form, is_1b_at}
use Rattle.rules.specs.Replies.{room_counts, room_long, open_reply, house_of, opened, opening}
use Rattle.rules.proofs.Sound.{and_l, and_r, clear, Clear, and_two}
use Rattle.rules.proofs.Area.{length-patch}
use Rattle.rules.proofs.Codec.{length-fit, take-fit, at_in, place_in}
use Rattle.rules.proofs.Spare.{length-many}
use Rattle.rules.proofs.Nodes.{zero_bit}
use Rattle.agree.specs.Room.{blank}
use Rattle.kept.specs.Kept.{Begun}
use Rattle.kept.proofs.Ready.{Form, drop_test}
use Rattle.kept.proofs.Lists.{below_all}
use Rattle.kept.proofs.Stay.{in_form_whole}

-- ---- lists that opening writes

window-many : (w t : List ℕ) (n k : ℕ) → length w ≡ 36 → k < n → take 36 (drop (36 * k) (many n w ++ t)) ≡ w
window-many w t zero k l h = absurd (omega arith)
window-many w t (suc n) zero l h = rw append_assoc (take_at w (many n w ++ t) 36 l)
window-many w t (suc n) (suc k) l h =
    let e : 36 * suc k ≡ length w + 36 * k = omega arith in
    rw (append_assoc, e, drop-append-add w (many n w ++ t) (36 * k)) (window-many w t n k l (omega arith))

zeros : (t : List ℕ) (n i : ℕ) → i < n → get_or (many n (0 ∷ []) ++ t) i 0 ≡ 0
zeros t zero i h = absurd (omega arith)
zeros t (suc n) zero h = refl
zeros t (suc n) (suc i) h = zeros t n i (omega arith)

-- ---- opening

module _ (ρ : Room) (m : Memory) (e : open_reply ρ m ≡ 0) where
  abbrev m' : Memory
  m' = record {
    house = house_of ρ;
    board = m.board;
    cells = many (ρ.nodes * ρ.rows) (encode (stored_cell fresh)) ++ drop (length (many (ρ.nodes * ρ.rows) (encode (stored_cell fresh)))) m.cells;
    heard = many (128 * ρ.nodes) (0 ∷ []) ++ drop (length (many (128 * ρ.nodes) (0 ∷ []))) m.heard;
  }

  opens_to : opening ρ m ≡ m'
  unfolding opening opened
  opens_to = rw (eq-eqb (open_reply ρ m) 0 e)

  tests : Clear ((room_counts ρ, 1) ∷ (room_long ρ m, 5) ∷ tables ρ)
  unfolding open_reply
  tests = clear ((room_counts ρ, 1) ∷ (room_long ρ m, 5) ∷ tables ρ) tt e

  table : first (tables ρ) ≡ 0
  unfolding open_reply
  table = drop_test (room_long ρ m) 5 tests.1.0 (drop_test (room_counts ρ) 1 tests.0 e)

  listed : (length ρ.quorums ≤ 64) × (length ρ.weaks ≤ 64)
  listed = let t = tests.0 in (search (leb→le, and_l, and_r) depth 9, search (leb→le, and_l, and_r) depth 9)

  room : room_of (house_of ρ) ≡ ρ
  room = λ i. record { nodes = ρ.nodes; faulty = ρ.faulty; rows = ρ.rows; capacity = ρ.capacity; quorums = take-fit 64 ρ.quorums listed.0 i; weaks = take-fit 64 ρ.weaks listed.1 i }

  -- a cell as opening sets it
  window_new : (k : ℕ) → k < ρ.nodes * ρ.rows → take 36 (drop (36 * k) m'.cells) ≡ encode (stored_cell fresh)
  window_new k l = window-many (encode (stored_cell fresh)) (drop (length (many (ρ.nodes * ρ.rows) (encode (stored_cell fresh)))) m.cells) (ρ.nodes * ρ.rows) k refl l

  unheard : (n k : ℕ) → n < ρ.nodes → k < 1024 → heard_at m'.heard n k ≡ false
  unfolding heard_at
  unheard n k a b = rw (zeros (drop (length (many (128 * ρ.nodes) (0 ∷ []))) m.heard) (128 * ρ.nodes) (128 * n + k / 8) (omega arith)) (zero_bit (k % 8))

  reads : read m' ≡ blank
  reads = λ i. record { board = []; cells = fun_ext (λ r. fun_ext (λ n. cells r n (in_room ρ r n) refl)) i; heard = fun_ext (λ n. fun_ext (λ k. heard n k (ltb n ρ.nodes) refl (ltb k 1024) refl)) i; marks = fun_ext zero_bit i; intake = [] }
    where
      cells : (r n : ℕ) (b : Bool) → in_room ρ r n ≡ b → pick b (meaning_cell (cell_at m'.cells (place ρ.rows r n))) fresh ≡ fresh
      cells r n true e = let p = at_in ρ r n (rw e tt) in
          ap (λ (w : List ℕ). meaning_cell (cell_of w)) (window_new (place ρ.rows r n) (place_in ρ.nodes ρ.rows r n p.low p.high p.node))
      cells r n false e = refl

      heard : (n k : ℕ) (x : Bool) → ltb n ρ.nodes ≡ x → (y : Bool) → ltb k 1024 ≡ y → (x && y) && heard_at m'.heard n k ≡ false
      heard n k true p true q = unheard n k (ltb-true n ρ.nodes p) (ltb-true k 1024 q)
      heard n k true p false q = refl
      heard n k false p y q = refl

  form : Form m'
  unfolding house_form board_form cells_form heard_form plain_cell good_cell
  form = record {
    house = subst (λ (σ : Room). T (eqb (first (tables σ)) 0 && ltb 0 (2 ^ ρ.nodes))) (sym room)
        (and_two (eqb (first (tables ρ)) 0) (ltb 0 (2 ^ ρ.nodes)) (rw table tt) (lt→ltb 0 (2 ^ ρ.nodes) (pow_pos ρ.nodes)));
    board = tt;
    cells = below_all (cell_form 0 m'.cells) (ρ.nodes * ρ.rows) (λ k l.
        subst (λ (w : List ℕ). T (eqs w (encode (stored_cell (meaning_cell (cell_of w)))) && good_cell 0 (meaning_cell (cell_of w)))) (sym (window_new k l)) tt);
    heard = below_all (λ a. all_below (bit_form m' a) 1024) ρ.nodes (λ a l. below_all (bit_form m' a) 1024 (λ k i.
        subst (λ (b : Bool). T (not b || is_1b_at [] k)) (sym (unheard a k l i)) tt));
  }

  counted : T (counts (house_of ρ))
  unfolding counts
  counted = let t = tests.0 in let z = le→leb 0 ρ.capacity (omega arith) in search (and_two, and_l, and_r, t, z) depth 12

  lengthy : T (long m')
  unfolding long
  lengthy =
      let t = tests.1.0 in
      let c : 36 * (ρ.nodes * ρ.rows) ≤ length m.cells = search (leb→le, and_l, and_r) depth 9 in
      let h : 128 * ρ.nodes ≤ length m.heard = search (leb→le, and_l, and_r) depth 9 in
      let lc = length-many (ρ.nodes * ρ.rows) (encode (stored_cell fresh)) in
      let lh = length-many (128 * ρ.nodes) (0 ∷ []) in
      rw (length-patch m.cells (many (ρ.nodes * ρ.rows) (encode (stored_cell fresh))) 0 (omega arith), length-patch m.heard (many (128 * ρ.nodes) (0 ∷ [])) 0 (omega arith)) t

  pub begun : Begun ρ (opening ρ m)
  begun = rw opens_to (record {
    whole = record { typed = record { stations = length-fit 64 []; serials = length-fit 64 [] }; counts = counted; long = lengthy; form = in_form_whole m' form };
    room = room;
    empty = reads;
  })
