-- The book's rows by their tubes: how far they reach, the lines that they make, and the tubes that they leave waiting.
use mathlib.Core.Path.{◌≡◌, refl, ap, sym, fun_ext, ◌∙◌}
use mathlib.Core.Bool.{Bool, true, false, not}
use mathlib.Core.List.{List, [], ◌∷◌, ◌++◌, map, append-nil}
use Prim.Native.Nat.{ℕ, zero, suc, ◌+◌, ◌≤◌, ◌<◌}
use native.Mathlib.Numerals.{add-one}
use native.Mathlib.Decide.{ℕ_discrete}
use native.Mathlib.Omega.{arith}
use borrow.Author.Tests.{ne_eqb}
use lib.Dec.{T, eqb}
use lib.ListN.{length, get_or, take, drop, set, length-append}
use lib.Seq.{get_or-take, length-take-le, drop-cons, append_snoc, set-append_seam, get_or-set_same, get_or-set_other}
use Rattle.rules.specs.Tests.{pick, keep, up_to}
use Rattle.rules.specs.Words.{Room, State}
use Rattle.rules.specs.Lent.{patch}
use Rattle.rules.specs.Book.{agreed, outcome, tube_of, is_agreed, is_split, reach, row_tube, entry, book_of, stands, waiting_of, stopped}
use Rattle.rules.specs.Replies.{stop_of}
use Rattle.rules.proofs.Lists.{keep-next, any_next, map_next, length-keep, length_up, leading_is}
use Rattle.rules.proofs.Scan.{or_swap}
use Rattle.rules.proofs.Book.{reaches, before, entry_next, stops_ended}
use Rattle.rules.specs.declared.Stop.{Stop}
use Rattle.rules.specs.declared.Stop.TheVariants.{RowsEnded}
use Rattle.tell.specs.declared.Rows.{Rows}
use Rattle.tell.specs.Lines.{Reached, standing, line_of, lines, left, Left, Written}

-- ---- an area written from its front

-- one more byte
pub patch-next : (s ys : List ℕ) (x : ℕ) → length ys < length s → set (patch s 0 ys) (length ys) x ≡ patch s 0 (ys ++ (x ∷ []))
patch-next s ys x h =
    ap (λ (d : List ℕ). set (ys ++ d) (length ys) x) (drop-cons s (length ys) 0 h)
    ∙ set-append_seam ys (get_or s (length ys) 0) (drop (suc (length ys)) s) x
    ∙ sym (append_snoc ys x (drop (suc (length ys)) s))
    ∙ ap (λ (n : ℕ). (ys ++ (x ∷ [])) ++ drop n s) (sym (length-append ys (x ∷ []) ∙ add-one (length ys)))

-- ---- the lines

pub length-lines : (tubes : List ℕ) (n : ℕ) → length (lines tubes n) ≡ n
unfolding lines
length-lines tubes zero = refl
length-lines tubes (suc n) = length-append (lines tubes n) (line_of tubes n ∷ []) ∙ omega (arith, length-lines tubes n)

pub lines_next : (tubes s : List ℕ) (i : ℕ) → i < length s → set (patch s 0 (lines tubes i)) i (line_of tubes i) ≡ patch s 0 (lines tubes (i + 1))
unfolding lines
lines_next tubes s i h =
    let e = length-lines tubes i in
    rw add-one (ap (λ (n : ℕ). set (patch s 0 (lines tubes i)) n (line_of tubes i)) (sym e) ∙ patch-next s (lines tubes i) (line_of tubes i) (omega arith))

-- ---- the waiting tubes

pub left-most : (tubes : List ℕ) (n k : ℕ) → length (left tubes n k) ≤ k
unfolding left
left-most tubes n k = omega (arith, length-keep (λ t. not (standing tubes n t)) (up_to k), length_up k)

module _ (tubes : List ℕ) (n k : ℕ) (s area : List ℕ) (w : ℕ) (written : area ≡ patch s 0 (left tubes n k)) (counted : w ≡ length (left tubes n k)) where
  more : left tubes n (k + 1) ≡ left tubes n k ++ pick (not (standing tubes n (k + 1))) ((k + 1) ∷ []) []
  unfolding left
  more = rw add-one (keep-next (λ t. not (standing tubes n t)) k)

  -- the next tube stands in a row
  pub left_stands : standing tubes n (k + 1) ≡ true → Left tubes n (k + 1) s area w
  left_stands e =
      let m : left tubes n (k + 1) ≡ left tubes n k = more ∙ rw (e, append-nil) in
      record { area = rw m written; number = rw m counted }

  -- and it waits
  pub left_waits : standing tubes n (k + 1) ≡ false → w < length s → Left tubes n (k + 1) s (set area w (k + 1)) (w + 1)
  left_waits e fits =
      let l = left tubes n k in
      let m : left tubes n (k + 1) ≡ l ++ ((k + 1) ∷ []) = more ∙ rw e in
      record {
        area = rw m (ap (λ (t : List ℕ). set t w (k + 1)) written ∙ ap (λ (i : ℕ). set (patch s 0 l) i (k + 1)) counted ∙ patch-next s l (k + 1) (omega arith));
        number = omega (arith, ap length m, length-append l ((k + 1) ∷ []), counted);
      }

-- ---- how far the rows reach

-- the first k rows are agreed, and these are their tubes
abbrev pub So : Room → State → List ℕ → ℕ → Type 0
So ρ s tubes k = (i : ℕ) → i < k → (get_or tubes i 0 ≡ row_tube ρ s (suc i)) × T (is_agreed (outcome ρ s (suc i)))

pub so_more : (ρ : Room) (s : State) (tubes : List ℕ) (k v : ℕ) → So ρ s tubes k → k < length tubes → outcome ρ s (k + 1) ≡ agreed v → So ρ s (set tubes k v) (k + 1)
unfolding row_tube
so_more ρ s tubes k v f h e i l = go (ℕ_discrete i k)
  where
    e' : outcome ρ s (suc k) ≡ agreed v
    e' = rw add-one at e

    go : Dec (i ≡ k) → (get_or (set tubes k v) i 0 ≡ tube_of (outcome ρ s (suc i))) × T (is_agreed (outcome ρ s (suc i)))
    go (yes d) = rw (d, get_or-set_same tubes k v 0 h, e') (refl, tt)
    go (no d) = let z = f i (omega arith) in (get_or-set_other tubes k i v 0 d ∙ z.0, z.1)

module _ (ρ : Room) (s : State) (tubes : List ℕ) (k : ℕ) (f : So ρ s tubes k) where
  so_far : k ≤ ρ.rows → (k < ρ.rows → ¬ (T (is_agreed (outcome ρ s (suc k))))) → reach ρ s ≡ k
  unfolding reach
  so_far h g = leading_is (λ r. is_agreed (outcome ρ s r)) ρ.rows k h pass g
    where
      pass : (r : ℕ) → 1 ≤ r → r ≤ k → T (is_agreed (outcome ρ s r))
      pass zero a b = absurd (omega arith)
      pass (suc i) a b = (f i b).1

  -- every row is agreed
  pub ended : k ≡ ρ.rows → Reached ρ s (record { tubes = tubes; reach = k; stop = RowsEnded })
  ended e =
      let r = so_far (omega arith) (λ l. absurd (omega arith)) in
      record { reach = sym r; tubes = λ i l. (f i l).0; stop = sym ((stops_ended ρ s).1 (r ∙ e)) }

  -- the next row is not
  pub halted : (x : Stop) → k < ρ.rows → is_agreed (outcome ρ s (k + 1)) ≡ false → stop_of x ≡ pick (is_split (outcome ρ s (k + 1))) 2 1
      → Reached ρ s (record { tubes = tubes; reach = k; stop = x })
  unfolding stopped
  halted x h e d =
      let e' = rw add-one at e in
      let r = so_far (omega arith) (λ l t. rw e' at t) in
      record { reach = sym r; tubes = λ i l. (f i l).0; stop = d ∙ rw (add-one, r, ne_eqb k ρ.rows (λ z. omega arith)) }

-- ---- the lines and the waiting tubes are the book's

module _ (ρ : Room) (s : State) (tubes : List ℕ) where
  -- the tubes of the first n rows
  abbrev Held : ℕ → Type 0
  Held n = (i : ℕ) → i < n → get_or tubes i 0 ≡ row_tube ρ s (suc i)

  fewer : (n : ℕ) → Held (suc n) → Held n
  fewer n f i l = f i (omega arith)

  standing-before : (n t : ℕ) → Held n → standing tubes n t ≡ before ρ s n t
  standing-before zero t f = refl
  standing-before (suc n) t f =
      rw (f n (omega arith), standing-before n t (fewer n f)) (or_swap (eqb (row_tube ρ s (suc n)) t) (before ρ s n t))
      ∙ sym (any_next (λ q. eqb (row_tube ρ s q) t) n)

  lines_entries : (n : ℕ) → Held n → lines tubes n ≡ map (entry ρ s) (up_to n)
  unfolding lines
  lines_entries zero f = refl
  lines_entries (suc n) f =
      let e : line_of tubes n ≡ entry ρ s (suc n) = rw (f n (omega arith), standing-before n (row_tube ρ s (suc n)) (fewer n f)) (sym (entry_next ρ s n)) in
      rw (lines_entries n (fewer n f), e) (sym (map_next (entry ρ s) n))

module _ (ρ : Room) (s : State) (r : Rows) (f : Reached ρ s r) (fits : r.reach ≤ length r.tubes) where
  -- the book's rows as a part of the array
  abbrev pub rows : List ℕ
  rows = take r.reach r.tubes

  abbrev held : (i : ℕ) → i < r.reach → get_or rows i 0 ≡ row_tube ρ s (suc i)
  held i h = get_or-take r.reach r.tubes i 0 h ∙ f.tubes i h

  lines_book : lines rows r.reach ≡ book_of ρ s
  unfolding book_of
  lines_book = lines_entries ρ s rows r.reach held ∙ ap (λ (n : ℕ). map (entry ρ s) (up_to n)) f.reach

  left_waiting : (k : ℕ) → length s.intake ≡ k → left rows r.reach k ≡ waiting_of ρ s
  unfolding left waiting_of stands
  left_waiting k e =
      ap (λ (p : ℕ → Bool). keep (λ t. not (p t)) (up_to k)) (fun_ext (λ t. standing-before ρ s rows r.reach t held ∙ ap (λ (n : ℕ). before ρ s n t) f.reach))
      ∙ ap (λ (n : ℕ). keep (λ t. not (before ρ s (reach ρ s) t)) (up_to n)) (sym e)

  -- the book is written, by what its parts wrote
  pub written : (k : ℕ) (p q p' q' : List ℕ) (w : ℕ) → length s.intake ≡ k → p' ≡ patch p 0 (lines rows (length rows)) → Left rows (length rows) k q q' w
      → Written ρ s p q p' q' (record { rows = r.reach; waiting = w; stop = r.stop })
  written k p q p' q' w e d l =
      let n = length-take-le r.reach r.tubes fits in
      let b = lines_book in
      let v = left_waiting k e in record {
        rows = rw n at d ∙ ap (patch p 0) b;
        waiting = rw n at l.area ∙ ap (patch q 0) v;
        entered = sym (length-lines rows r.reach) ∙ ap length b;
        left = rw n at l.number ∙ ap length v;
        stop = f.stop;
      }

pub reach-most : (ρ : Room) (s : State) (r : Rows) → Reached ρ s r → r.reach ≤ ρ.rows
reach-most ρ s r f = omega (arith, f.reach, reaches ρ s)
