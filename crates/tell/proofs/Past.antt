-- Past the gate: the votes can be counted, and a call is answered by the rules; asking and the book change nothing of memory.
use mathlib.Core.Path.{◌≡◌, refl, ap, sym, ◌∙◌}
use mathlib.Core.Bool.{Bool, true, false, not, ◌&&◌}
use mathlib.Core.List.{List, [], ◌∷◌}
use Prim.Native.Nat.{ℕ, ◌*◌, ◌≤◌}
use native.Mathlib.Nat.{zero-div}
use native.Mathlib.Omega.{arith}
use borrow.Author.Tests.{ne_eqb}
use lib.Dec.{T, eqb, leb, eqb→eq, leb→le}
use lib.ListN.{length}
use Rattle.rules.specs.Tests.{pick, all, all_in, bit, first}
use Rattle.rules.specs.Words.{Room, State}
use Rattle.rules.specs.Lent.{Memory, board_of, room_of, row_in, read, tables, counts, long, limits, scanned, good_msg, house_form, board_form, in_form}
use Rattle.rules.specs.Steps.{Call, ask, book, stays, effect, write, full}
use Rattle.rules.specs.Book.{Outcome, unchosen, agreed, split, outcome, is_split, tube_of}
use Rattle.rules.specs.Replies.{fields, tubes, rules, areas, gate, reply, after, answer, tell, bare, valued, rows_after, waiting_after, stop_of}
use Rattle.rules.proofs.Sound.{and_l, and_r, any_sound, in_sound, clear}
use Rattle.rules.proofs.Lists.{failed}
use Rattle.rules.proofs.Totals.{some_node}
use Rattle.kept.proofs.Lists.{all_more}
use Rattle.kept.proofs.Stay.{after_by}
use Rattle.tell.specs.declared.Figures.{Figures}
use Rattle.tell.specs.Votes.{Countable}
use Rattle.tell.specs.Lines.{Written}
use Rattle.tell.specs.Past.{past, told, BookDid, BookSettled}

-- ---- the votes can be counted

-- no votes fill no quorum
peopled : (ρ : Room) → first (tables ρ) ≡ 0 → full ρ ρ.quorums (bit 0) ≡ false
peopled ρ e = failed (full ρ ρ.quorums (bit 0)) (λ t.
    let q = any_sound (λ q. all_in ρ.nodes q (bit 0)) ρ.quorums t in
    let a = some_node ρ q.0 e q.1 in
    let z = in_sound ρ.nodes q.0 (bit 0) q.2 a.0 a.1 a.2 in
    rw zero-div at z)

pub countable : (m : Memory) → T (counts m.house) → T (long m) → T (in_form m) → Countable m.house m.board
unfolding counts long in_form house_form board_form good_msg
countable m p q t =
    let h = m.house in
    let count : h.count ≤ h.capacity = search (leb→le, and_l, and_r, p) depth 9 in
    let most : h.capacity ≤ 1024 = search (leb→le, and_l, and_r, p) depth 9 in
    let size : 40 * h.capacity ≤ length m.board = search (leb→le, and_l, and_r, q) depth 9 in
    let good : T (all (good_msg (room_of h) h.tubes) (board_of m.board h.count)) = search (and_l, and_r, t) depth 9 in
    let set : T (eqb (first (tables (room_of h))) 0) = search (and_l, and_r, t) depth 9 in record {
      nodes = search (leb→le, and_l, and_r, p) depth 9;
      rows = search (leb→le, and_l, and_r, p) depth 9;
      listed = search (leb→le, and_l, and_r, p) depth 9;
      tubes = search (leb→le, and_l, and_r, p) depth 9;
      board = record { count = omega arith; long = omega arith; plain = search (and_l, and_r, t) depth 9 };
      limits = all_more (good_msg (room_of h) h.tubes) (limits (room_of h)) (board_of m.board h.count) (λ x u. and_l (limits (room_of h) x) (scanned h.tubes x) u) good;
      peopled = peopled (room_of h) (eqb→eq (first (tables (room_of h))) 0 set);
    }

-- ---- the answer, past the gate and before it

abbrev three : Bool → Bool → Bool → List (Bool × ℕ) → List (Bool × ℕ)
three a b c l = (a, 17) ∷ (b, 5) ∷ (c, 17) ∷ l

module _ (m : Memory) (c : Call) where
  abbrev pub found : ℕ
  found = first (gate m c)

  pub gate-most : found ≤ 17
  gate-most = go (counts m.house) (long m && areas m.house c) (in_form m)
    where
      go : (x y z : Bool) → first (three x y z []) ≤ 17
      go true true true = omega arith
      go true true false = omega arith
      go true false z = omega arith
      go false y z = omega arith

  by_gate : reply m c ≡ pick (eqb found 0) (first (rules (room_of m.house) (read m) c)) found
  unfolding reply
  by_gate = go (counts m.house) (long m && areas m.house c) (in_form m) (rules (room_of m.house) (read m) c)
    where
      go : (x y z : Bool) (l : List (Bool × ℕ)) → first (three x y z l) ≡ pick (eqb (first (three x y z [])) 0) (first l) (first (three x y z []))
      go true true true l = refl
      go true true false l = refl
      go true false z l = refl
      go false y z l = refl

  -- refused at the gate
  module _ (n : found ≡ 0 → ⊥) where
    pub gate-reply : reply m c ≡ found
    gate-reply = by_gate ∙ rw (ne_eqb found 0 n)

    pub gate-answer : answer m c ≡ bare found
    unfolding answer
    gate-answer = rw (gate-reply, ne_eqb found 0 n)

  -- let through
  module _ (e : found ≡ 0) where
    pub past-reply : reply m c ≡ first (rules (room_of m.house) (read m) c)
    past-reply = by_gate ∙ rw e

    pub past-answer : answer m c ≡ past (room_of m.house) (read m) c
    unfolding answer past
    past-answer = rw past-reply

    pub past_countable : Countable m.house m.board
    past_countable = let z = clear (gate m c) tt e in countable m z.0 (and_l (long m) (areas m.house c) z.1.0) z.1.1.0

    pub past-areas : T (areas m.house c)
    past-areas = and_r (long m) (areas m.house c) (clear (gate m c) tt e).1.0

  -- a call that only tells leaves memory as it is
  pub unmoved : effect (read m) c ≡ stays → after m c ≡ m
  unfolding write
  unmoved d = after_by (λ x. x ≡ m) m c refl (λ e. ap (write m) d)

-- ---- asking a row

pub row_most : (ρ : Room) (row : ℕ) → row_in ρ row ≡ true → row ≤ ρ.rows
row_most ρ row e = let t : T (row_in ρ row) = rw e tt in leb→le row ρ.rows (and_r (leb 1 row) (leb row ρ.rows) t)

module _ (ρ : Room) (s : State) (row : ℕ) where
  pub ask_outside : row_in ρ row ≡ false → first (rules ρ s (ask row)) ≡ 6
  unfolding fields
  ask_outside e = rw e

  pub ask_inside : row_in ρ row ≡ true → (o : Outcome) → o ≡ outcome ρ s row → first (rules ρ s (ask row)) ≡ pick (is_split o) 18 0
  unfolding fields tubes
  ask_inside e o d = rw (e, ← d) (go (is_split o))
    where
      go : (b : Bool) → ◌≡◌ {A = ℕ} (pick (not b) 0 18) (pick b 18 0)
      go true = refl
      go false = refl

  pub told_outside : row_in ρ row ≡ false → bare 6 ≡ past ρ s (ask row)
  unfolding past
  told_outside e = rw (ask_outside e)

  pub told-inside : row_in ρ row ≡ true → (o : Outcome) → o ≡ outcome ρ s row → told o ≡ past ρ s (ask row)
  unfolding past tell
  told-inside e o d = rw (ask_inside e o d, ← d) (go o)
    where
      go : (o : Outcome) → told o ≡ pick (eqb (pick (is_split o) 18 0) 0) (valued (tube_of o)) (bare (pick (is_split o) 18 0))
      go unchosen = refl
      go (agreed v) = refl
      go split = refl

-- ---- the book

module _ (m : Memory) (p q : List ℕ) where
  -- refused: the areas stay
  pub book_refused : (found m (book p q) ≡ 0 → ⊥) → BookDid m p q p q (bare (found m (book p q)))
  unfolding rows_after waiting_after
  book_refused n = record {
    did = record { answer = sym (gate-answer m (book p q) n); memory = sym (unmoved m (book p q) refl) };
    rows = rw (gate-reply m (book p q) n, ne_eqb (found m (book p q)) 0 n);
    waiting = rw (gate-reply m (book p q) n, ne_eqb (found m (book p q)) 0 n);
  }

  -- done: the book is written
  pub book_done : (p' q' : List ℕ) (f : Figures) → found m (book p q) ≡ 0 → Written (room_of m.house) (read m) p q p' q' f
      → BookDid m p q p' q' (record { number = 0; value = f.rows; waiting = f.waiting; stopped = stop_of f.stop })
  unfolding rows_after waiting_after past fields tubes tell
  book_done p' q' f e w = record {
    did = record {
      answer = (λ i. record { number = 0; value = w.entered i; waiting = w.left i; stopped = w.stop i }) ∙ sym (past-answer m (book p q) e);
      memory = sym (unmoved m (book p q) refl);
    };
    rows = w.rows ∙ rw (past-reply m (book p q) e);
    waiting = w.waiting ∙ rw (past-reply m (book p q) e);
  }

pub book_settled : BookSettled
book_settled m p q p₁ p₂ q₁ q₂ a a' g h =
    (g.did.answer ∙ sym h.did.answer, (g.rows ∙ sym h.rows, g.waiting ∙ sym h.waiting))
