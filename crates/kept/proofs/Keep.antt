-- An effect of good parts keeps memory in form.
use mathlib.Core.Path.{◌≡◌, refl, ap, sym, subst, ◌∙◌}
use mathlib.Core.Bool.{Bool, true, false, not, ◌&&◌, ◌||◌}
use mathlib.Core.Logic.{⊎_elim}
use mathlib.Core.List.{List, [], ◌∷◌, ◌++◌}
use Prim.Native.Nat.{ℕ, suc, ◌+◌, ◌*◌, ◌^◌, ◌≤◌, ◌<◌}
use native.Mathlib.Decide.{ℕ_discrete}
use native.Mathlib.Omega.{arith}
use borrow.Author.Tests.{eqb-true, lt-ltb}
use lib.Bits.{bit_or, or_lt}
use lib.Pow.{pow-lt}
use lib.Dec.{T, eqb, ltb, ltb→lt, lt→ltb}
use lib.ListN.{length, take}
use Rattle.rules.specs.Tests.{all, all_below, distinct, eqs, first}
use Rattle.rules.specs.Words.{Msg, same_msg, Cell, Room}
use Rattle.rules.specs.Lent.{Memory, window, patch, bytes_of, stored, board_of, encode, cell_at, meaning_cell, stored_cell, flatten, place, heard_at, set_bit, marked, room_of, read, tables, plain_msg, good_msg, plain_cell, good_cell, cell_form, is_1b_at, same_scan, house_form, board_form, cells_form, bit_form, heard_form}
use Rattle.rules.specs.Steps.{has, scanned_in, Effect, stays, scans, sends, acts, hears, posts, post, write_cell, write}
use Rattle.rules.proofs.Sound.{and_l, and_r, or_cases, or_l, or_r, and_two}
use Rattle.rules.proofs.Area.{patch_same, patch-below, patch_above, cell-put, cell-kept}
use Rattle.rules.proofs.Codec.{msg_back, msg_long, length-fit, board_grows, At, place_in, order, heard_set, intake_grows, msg_put, msg_kept}
use Rattle.rules.proofs.Forms.{eqs_same, long_bytes, long-cell}
use Rattle.rules.proofs.Spare.{room-post}
use Rattle.kept.proofs.Sim.{Sized, Sendable, Ready, added, entered, post_by, scan_by, room_for, post_sized}
use Rattle.kept.proofs.Lists.{all-below, below_all, all_last, all_more, distinct_last, same_flip, scan_flip, is1b_last}
use Rattle.kept.proofs.Cells.{good_suc, cell_suc}
use Rattle.kept.proofs.Ready.{Form}

-- ---- the parts of the form

record HouseParts (m : Memory) : Type 0 where
  pub tables : T (eqb (first (tables (room_of m.house))) 0)
  pub intake : T (distinct same_scan (read m).intake)
  pub marks : T (ltb m.house.marks (2 ^ m.house.nodes))

house-parts : (m : Memory) → T (house_form m) → HouseParts m
unfolding house_form
house-parts m t = record { tables = search (and_l, and_r) depth 9; intake = search (and_l, and_r) depth 9; marks = search (and_l, and_r) depth 9 }

house_whole : (m : Memory) → HouseParts m → T (house_form m)
unfolding house_form
house_whole m p = search (and_two, p.tables, p.intake, p.marks) depth 9

record BoardParts (m : Memory) : Type 0 where
  pub plain : T (all_below (plain_msg m.board) m.house.count)
  pub good : T (all (good_msg (room_of m.house) m.house.tubes) (read m).board)
  pub differ : T (distinct same_msg (read m).board)

board_parts : (m : Memory) → T (board_form m) → BoardParts m
unfolding board_form
board_parts m t = record { plain = search (and_l, and_r) depth 9; good = search (and_l, and_r) depth 9; differ = search (and_l, and_r) depth 9 }

board_whole : (m : Memory) → BoardParts m → T (board_form m)
unfolding board_form
board_whole m p = search (and_two, p.plain, p.good, p.differ) depth 9

-- ---- a message is added

module _ (m : Memory) (z : Sized m) (f : Form m) (x : Msg) (s : Sendable m x) (g : T (good_msg (room_of m.house) m.house.tubes x)) where
  abbrev n : ℕ
  n = m.house.count

  abbrev B : List Msg
  B = board_of m.board n

  abbrev m' : Memory
  m' = added m x

  module _ (e : has x B ≡ false) where
    room' : 40 * n + 40 ≤ length m.board
    room' = room_for m z x s e

    grows : board_of m'.board (suc n) ≡ B ++ (x ∷ [])
    grows = board_grows m.board x n s.small room'

    plain_old : (k : ℕ) → k < n → T (plain_msg m.board k) → T (plain_msg m'.board k)
    unfolding plain_msg
    plain_old k l t = rw (patch-below m.board (bytes_of (stored x)) (40 * n) (40 * k) 40 (omega arith) (omega (arith, room')), msg_kept m.board (bytes_of (stored x)) n k l (omega (arith, room'))) t

    plain_new : T (plain_msg m'.board n)
    unfolding plain_msg
    plain_new = rw (patch_same m.board (bytes_of (stored x)) (40 * n) 40 (long_bytes x) room', msg_put m.board (stored x) n (msg_long x) room', msg_back x s.small) (eqs_same (bytes_of (stored x)))

    board' : T (board_form m')
    board' = let p = board_parts m f.board in board_whole m' (record {
      plain = and_two (plain_msg m'.board n) (all_below (plain_msg m'.board) n) plain_new (below_all (plain_msg m'.board) n (λ k l. plain_old k l (all-below (plain_msg m.board) n p.plain k l)));
      good = rw grows (all_last (good_msg (room_of m.house) m.house.tubes) B x p.good g);
      differ = rw grows (distinct_last same_msg same_flip B x p.differ e);
    })

    heard' : T (heard_form m')
    unfolding heard_form
    heard' = below_all (λ a. all_below (bit_form m' a) 1024) m.house.nodes (λ a l. below_all (bit_form m' a) 1024 (λ k i.
        go a k (all-below (bit_form m a) 1024 (all-below (λ a. all_below (bit_form m a) 1024) m.house.nodes f.heard a l) k i)))
      where
        go : (a k : ℕ) → T (bit_form m a k) → T (bit_form m' a k)
        go a k t = ⊎_elim (λ (u : T (not (heard_at m.heard a k))). or_l (not (heard_at m.heard a k)) (is_1b_at (board_of m'.board (suc n)) k) u)
            (λ (u : T (is_1b_at B k)). or_r (not (heard_at m.heard a k)) (is_1b_at (board_of m'.board (suc n)) k) (rw grows (is1b_last B x k u)))
            (or_cases (not (heard_at m.heard a k)) (is_1b_at B k) t)

    form' : Form m'
    unfolding house_form cells_form
    form' = record { house = f.house; board = board'; cells = f.cells; heard = heard' }

  pub post_form : Form (post m x)
  post_form = post_by Form m x f form'

-- ---- a cell is set

window-kept : (s new : List ℕ) (k j : ℕ) → length new ≡ 36 → 36 * k + 36 ≤ length s → ¬ (j ≡ k) → window 36 j (patch s (36 * k) new) ≡ window 36 j s
window-kept s new k j l h d =
    ⊎_elim
    (λ (p : j < k). patch-below s new (36 * k) (36 * j) 36 (omega arith) (omega arith))
    (λ (p : k < j). ap (take 36) (patch_above s new (36 * k) (36 * j) (omega arith) (omega arith)))
    (order j k d)

module _ (m : Memory) (z : Sized m) (f : Form m) (r n : ℕ) (c : Cell) (p : At (room_of m.house) r n) (back : meaning_cell (stored_cell c) ≡ c) (g : T (good_cell m.house.tubes c)) where
  abbrev k : ℕ
  k = place m.house.rows r n

  abbrev s' : List ℕ
  s' = patch m.cells (36 * k) (encode (stored_cell c))

  fits' : 36 * k + 36 ≤ length m.cells
  fits' = let h = place_in m.house.nodes m.house.rows r n p.low p.high p.node in omega (arith, z.cells)

  put' : cell_at s' k ≡ stored_cell c
  put' = cell-put m.cells (stored_cell c) k (length-fit 32 (flatten c.pairs)) fits'

  here' : T (cell_form m.house.tubes s' k)
  unfolding plain_cell
  here' = and_two (plain_cell s' k) (good_cell m.house.tubes (meaning_cell (cell_at s' k)))
      (subst (λ (w : List ℕ). T (eqs w (encode (stored_cell (meaning_cell (cell_at s' k)))))) (sym (patch_same m.cells (encode (stored_cell c)) (36 * k) 36 (long-cell c) fits'))
      (subst (λ (w : Cell). T (eqs (encode (stored_cell c)) (encode (stored_cell w)))) (sym (ap meaning_cell put' ∙ back)) (eqs_same (encode (stored_cell c)))))
      (subst (λ (w : Cell). T (good_cell m.house.tubes w)) (sym (ap meaning_cell put' ∙ back)) g)

  there' : (j : ℕ) → ¬ (j ≡ k) → cell_form m.house.tubes s' j ≡ cell_form m.house.tubes m.cells j
  unfolding plain_cell
  there' j d =
      let a = cell-kept m.cells (encode (stored_cell c)) k j (long-cell c) fits' d in
      let b = window-kept m.cells (encode (stored_cell c)) k j (long-cell c) fits' d in
      λ i. eqs (b i) (encode (stored_cell (meaning_cell (a i)))) && good_cell m.house.tubes (meaning_cell (a i))

  pub cell_in_form : Form (write_cell m r n c)
  unfolding house_form board_form cells_form heard_form
  cell_in_form = record {
    house = f.house;
    board = f.board;
    cells = below_all (cell_form m.house.tubes s') (m.house.nodes * m.house.rows) (λ j l. go j l (ℕ_discrete j k));
    heard = f.heard;
  }
    where
      go : (j : ℕ) → j < m.house.nodes * m.house.rows → Dec (j ≡ k) → T (cell_form m.house.tubes s' j)
      go j l (yes e) = subst (λ (w : ℕ). T (cell_form m.house.tubes s' w)) (sym e) here'
      go j l (no e) = subst T (sym (there' j e)) (all-below (cell_form m.house.tubes m.cells) (m.house.nodes * m.house.rows) f.cells j l)

-- ---- a bit is set

bit-set : (m : Memory) (n k a j : ℕ) → Sized m → n < m.house.nodes → k < 1024 → a < m.house.nodes → j < 1024
    → heard_at (set_bit m.heard n k) a j ≡ (eqb a n && eqb j k) || heard_at m.heard a j
bit-set m n k a j z hn hk ha hj =
    let e = ap (λ (f : ℕ → ℕ → Bool). f a j) (heard_set (room_of m.house) m.heard n k hn hk z.heard) in
    rw (lt-ltb a m.house.nodes ha, lt-ltb j 1024 hj) at e

pub hear_form : (m : Memory) (n k : ℕ) → Sized m → Form m → n < m.house.nodes → k < 1024 → T (is_1b_at (read m).board k)
    → Form (record { house = m.house; board = m.board; cells = m.cells; heard = set_bit m.heard n k })
unfolding house_form board_form cells_form heard_form
hear_form m n k z f hn hk t = record {
  house = f.house;
  board = f.board;
  cells = f.cells;
  heard = below_all (λ a. all_below (bit_form m' a) 1024) m.house.nodes (λ a l. below_all (bit_form m' a) 1024 (λ j i.
      subst (λ (w : Bool). T (not w || is_1b_at (read m).board j)) (sym (bit-set m n k a j z hn hk l i))
      (go a j (eqb a n) (eqb j k) refl (all-below (bit_form m a) 1024 (all-below (λ a. all_below (bit_form m a) 1024) m.house.nodes f.heard a l) j i))));
}
  where
    m' : Memory
    m' = record { house = m.house; board = m.board; cells = m.cells; heard = set_bit m.heard n k }

    go : (a j : ℕ) (x y : Bool) → eqb j k ≡ y → T (bit_form m a j) → T (not ((x && y) || heard_at m.heard a j) || is_1b_at (read m).board j)
    go a j true true e u = rw (eqb-true j k e) t
    go a j true false e u = u
    go a j false y e u = u

-- ---- a mark is set, a tube is scanned

pub mark_form : (m : Memory) (n : ℕ) → Form m → n < m.house.nodes → Form (record { house = marked m.house n; board = m.board; cells = m.cells; heard = m.heard })
unfolding house_form board_form cells_form heard_form
mark_form m n f h =
    let p = house-parts m f.house in
    let l = ltb→lt m.house.marks (2 ^ m.house.nodes) p.marks in record {
      house = house_whole (record { house = marked m.house n; board = m.board; cells = m.cells; heard = m.heard }) (record {
        tables = p.tables;
        intake = p.intake;
        marks = lt→ltb (bit_or m.house.marks (2 ^ n)) (2 ^ m.house.nodes) (or_lt m.house.nodes m.house.marks (2 ^ n) l (pow-lt h));
      });
      board = f.board;
      cells = f.cells;
      heard = f.heard;
    }

pub scan_form : (m : Memory) (a b : ℕ) → Sized m → Form m → m.house.tubes < 64 → scanned_in (read m).intake a b ≡ false → Form (entered m a b)
unfolding cells_form heard_form
scan_form m a b z f h e =
    let p = house-parts m f.house in
    let q = board_parts m f.board in
    let t = m.house.tubes in
    let ρ = room_of m.house in
    let g = intake_grows m.house.stations m.house.serials t a b (omega (arith, z.stations)) (omega (arith, z.serials)) in record {
      house = house_whole (entered m a b) (record { tables = p.tables; intake = rw g (distinct_last same_scan scan_flip (read m).intake (a, b) p.intake e); marks = p.marks });
      board = board_whole (entered m a b) (record { plain = q.plain; good = all_more (good_msg ρ t) (good_msg ρ (suc t)) (read m).board (good_suc ρ t) q.good; differ = q.differ });
      cells = below_all (cell_form (suc t) m.cells) (m.house.nodes * m.house.rows) (λ k l.
          let c = meaning_cell (cell_at m.cells k) in
          let w = all-below (cell_form t m.cells) (m.house.nodes * m.house.rows) f.cells k l in
          and_two (plain_cell m.cells k) (good_cell (suc t) c) (and_l (plain_cell m.cells k) (good_cell t c) w) (cell_suc t c (and_r (plain_cell m.cells k) (good_cell t c) w)));
      heard = f.heard;
    }

-- ---- any effect of good parts

abbrev pub Good : Memory → Effect → Type 0
Good m stays = Unit
Good m (scans a b) = Unit
Good m (sends x) = T (good_msg (room_of m.house) m.house.tubes x)
Good m (acts x r n c) = T (good_msg (room_of m.house) m.house.tubes x) × T (good_cell m.house.tubes c)
Good m (hears n k) = T (is_1b_at (read m).board k)
Good m (posts x n) = T (good_msg (room_of m.house) m.house.tubes x) × (n < m.house.nodes)

post-tubes : (m : Memory) (x : Msg) → (post m x).house.tubes ≡ m.house.tubes
post-tubes m x = post_by (λ n. n.house.tubes ≡ m.house.tubes) m x refl (λ e. refl)

pub kept : (m : Memory) (e : Effect) → Sized m → Form m → Ready m e → Good m e → Form (write m e)
unfolding write
kept m stays z f r g = f
kept m (scans a b) z f r g = scan_by Form m a b f (λ e. scan_form m a b z f (r e) e)
kept m (sends x) z f r g = post_form m z f x r g
kept m (acts x q n c) z f r g =
    cell_in_form (post m x) (post_sized m z x r.0) (post_form m z f x r.0 g.0) q n c
    (subst (λ (ρ : Room). At ρ q n) (sym (room-post m x)) r.1.0) r.1.1 (subst (λ (k : ℕ). T (good_cell k c)) (sym (post-tubes m x)) g.1)
kept m (hears n k) z f r g = hear_form m n k z f r.0 r.1 g
kept m (posts x n) z f r g =
    mark_form (post m x) n (post_form m z f x r g.0) (subst (λ (ρ : Room). n < ρ.nodes) (sym (room-post m x)) g.1)
