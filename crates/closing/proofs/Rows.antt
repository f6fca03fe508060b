-- What the array of the book's tubes says of the book: which tubes stand in it, which rows are void, which tubes wait.
use mathlib.Core.Path.{◌≡◌, refl, sym, ap, ◌∙◌}
use mathlib.Core.Bool.{Bool, true, false, not, ◌||◌}
use mathlib.Core.List.{List, [], ◌∷◌, ◌++◌, map, append-nil, append_assoc}
use Prim.Native.Nat.{ℕ, zero, suc, ◌+◌, ◌-◌, ◌≤◌, ◌<◌}
use native.Mathlib.Numerals.{add-one}
use native.Mathlib.Omega.{arith}
use borrow.Author.Tests.{ne_eqb}
use lib.Dec.{eqb}
use lib.ListN.{length, get_or, take, length-append}
use mir.Val.{bool_byte}
use Rattle.std.specs.List.{list_any}
use Rattle.std.proofs.lemmas.List.Folds.{list_any_more}
use Rattle.rules.specs.Tests.{pick, any, keep, up_to, one}
use Rattle.rules.specs.Words.{Room, State}
use Rattle.rules.specs.Book.{reach, row_tube, void, entry, book_of, stands, waiting_of, stopped}
use Rattle.rules.specs.Laws.{entered}
use Rattle.rules.proofs.Lists.{any_same, any_next, map-append, map_next, keep-next, up_out}
use Rattle.rules.proofs.Book.{before, row_agreed, book_length}
use Rattle.rules.proofs.Totals.{entered-append}
use Rattle.closing.specs.Printed.{Line, enters, repeats, waits, splits, totals, line_text, lines_text, row_line, waiting_line, split_line, totals_line, lines_of, closing_of}
use Rattle.closing.specs.Given.{held_in, Rows, Book, Scans, rows_text, waiting_text}
use Rattle.closing.proofs.Lines.{row_tube_range}

-- ---- the first rows of the array

module _ (tubes : List ℕ) (t : ℕ) where
  pub held_next : (k : ℕ) → held_in tubes (k + 1) t ≡ held_in tubes k t || eqb (get_or tubes k 0) t
  unfolding held_in
  held_next k =
      let e : suc k - 1 ≡ k = omega arith in
      rw add-one (any_next (λ r. eqb (get_or tubes (r - 1) 0) t) k ∙ ap (λ (j : ℕ). any (λ r. eqb (get_or tubes (r - 1) 0) t) (up_to k) || eqb (get_or tubes j 0) t) e)

  -- the library's search finds a tube that stands there
  pub held_found : (k : ℕ) → k ≤ length tubes → list_any (λ x. eqb x t) (take k tubes) ≡ held_in tubes k t
  unfolding held_in
  held_found zero h = refl
  held_found (suc k) h =
      let r = held_found k (omega arith) in
      let l : k < length tubes = omega arith in
      let m = list_any_more (λ x. eqb x t) tubes k 0 l in
      let n = held_next k in
      rw add-one at m ∙ ap (λ (b : Bool). b || eqb (get_or tubes k 0) t) r ∙ sym (rw add-one at n)

-- each of the rows has a tube, 1 to 64
pub tube_range : (tubes : List ℕ) (n k : ℕ) → Rows tubes n → k < n → (1 ≤ get_or tubes k 0) × (get_or tubes k 0 ≤ 64)
tube_range tubes n k p h = let e : suc k - 1 ≡ k = omega arith in (rw e at (p.low (suc k) (omega arith) h), rw e at (p.high (suc k) (omega arith) h))

-- a Boolean's byte counts one or none
pub byte_one : (b : Bool) → bool_byte b ≡ one b
byte_one true = refl
byte_one false = refl

pub one-most : (b : Bool) → one b ≤ 1
one-most true = omega arith
one-most false = omega arith

-- ---- the lines of a list

pub lines-append : (l m : List Line) → lines_text (l ++ m) ≡ lines_text l ++ lines_text m
lines-append [] m = refl
lines-append (x ∷ l) m = rw (lines-append l m, append_assoc)

-- ---- the array holds the book's tubes

-- the waiting among the first k tubes
abbrev pub waiting_to : Room → State → ℕ → List ℕ
waiting_to ρ s k = keep (λ t. not (stands ρ s t)) (up_to k)

module _ (ρ : Room) (s : State) (k : ℕ) where
  pub waiting_next : waiting_to ρ s (k + 1) ≡ waiting_to ρ s k ++ pick (not (stands ρ s (k + 1))) ((k + 1) ∷ []) []
  waiting_next = rw (add-one, keep-next)

  pub waiting_all : k ≡ length s.intake → waiting_to ρ s k ≡ waiting_of ρ s
  unfolding waiting_of
  waiting_all e = ap (waiting_to ρ s) e

  -- one row's line more
  pub rows_next : rows_text ρ s (k + 1) ≡ rows_text ρ s k ++ line_text (row_line ρ s (k + 1))
  rows_next = rw (add-one, map_next (row_line ρ s) k, lines-append (map (row_line ρ s) (up_to k)), append-nil)

  -- one tube's line more, if it waits
  pub waiting_text_next : waiting_text s (waiting_to ρ s (k + 1)) ≡ waiting_text s (waiting_to ρ s k) ++ waiting_text s (pick (not (stands ρ s (k + 1))) ((k + 1) ∷ []) [])
  waiting_text_next = rw (waiting_next, map-append (waiting_line s) (waiting_to ρ s k), lines-append (map (waiting_line s) (waiting_to ρ s k)))

pub line_waits : (s : State) (stations serials : List ℕ) (t : ℕ) → Scans s stations serials → 1 ≤ t → t ≤ length s.intake
    → waiting_text s (t ∷ []) ≡ line_text (waits t (get_or stations (t - 1) 0) (get_or serials (t - 1) 0))
unfolding waiting_line
line_waits s stations serials t f h k = rw (append-nil, f t h k)

module _ (ρ : Room) (s : State) (tubes : List ℕ) (n : ℕ) (g : Book ρ s tubes n) where
  pub tube_at : (k : ℕ) → k < n → get_or tubes k 0 ≡ row_tube ρ s (suc k)
  tube_at k h = let e : suc k - 1 ≡ k = omega arith in ap (λ (j : ℕ). get_or tubes j 0) (sym e) ∙ g.holds (suc k) (omega arith) h

  pub held-before : (k t : ℕ) → k ≤ n → held_in tubes k t ≡ before ρ s k t
  unfolding held_in
  held-before k t h =
      any_same (λ r. eqb (get_or tubes (r - 1) 0) t) (λ r. eqb (row_tube ρ s r) t) (up_to k)
      (λ r m. let b = up_out k r m in ap (λ (v : ℕ). eqb v t) (g.holds r b.0 (omega (arith, b.1))))

  pub held-stands : (t : ℕ) → held_in tubes n t ≡ stands ρ s t
  unfolding stands
  held-stands t = held-before n t (omega arith) ∙ ap (λ (k : ℕ). before ρ s k t) g.reached

  -- row k + 1 is void where an earlier row holds its tube
  pub void-at : (k : ℕ) → k < n → void ρ s (suc k) ≡ held_in tubes k (get_or tubes k 0)
  unfolding void
  void-at k h =
      let e : suc k - 1 ≡ k = omega arith in
      ap (λ (j : ℕ). before ρ s j (row_tube ρ s (suc k))) e
      ∙ ap (λ (t : ℕ). before ρ s k t) (sym (tube_at k h))
      ∙ sym (held-before k (get_or tubes k 0) (omega arith))

  -- ---- counts

  -- one row more
  pub entered-next : (k : ℕ) → k < n → entered (map (entry ρ s) (up_to (k + 1))) ≡ entered (map (entry ρ s) (up_to k)) + one (not (held_in tubes k (get_or tubes k 0)))
  unfolding entry
  entered-next k h =
      rw (add-one, map_next, entered-append, void-at k h) (go (held_in tubes k (get_or tubes k 0)))
    where
      low : 1 ≤ row_tube ρ s (suc k)
      low = (row_tube_range ρ s (suc k) (omega arith) (omega (arith, g.reached))).0

      go : (b : Bool) → entered (map (entry ρ s) (up_to k)) + entered (pick b 0 (row_tube ρ s (suc k)) ∷ []) ≡ entered (map (entry ρ s) (up_to k)) + one (not b)
      go true = refl
      go false = rw (ne_eqb (row_tube ρ s (suc k)) 0 (λ e. omega (arith, low)))

  pub entered_all : entered (map (entry ρ s) (up_to n)) ≡ entered (book_of ρ s)
  unfolding book_of
  entered_all = ap (λ (k : ℕ). entered (map (entry ρ s) (up_to k))) g.reached

  pub waiting_more : (k : ℕ) → length (waiting_to ρ s (k + 1)) ≡ length (waiting_to ρ s k) + one (not (held_in tubes n (k + 1)))
  waiting_more k = rw (waiting_next ρ s k, length-append, held-stands (k + 1)) (go (not (stands ρ s (k + 1))))
    where
      go : (b : Bool) → length (waiting_to ρ s k) + length (pick b ((k + 1) ∷ []) []) ≡ length (waiting_to ρ s k) + one b
      go true = refl
      go false = refl

  -- ---- lines

  -- the line of a row whose tube an earlier row holds
  pub line_repeats : (k : ℕ) → k < n → held_in tubes k (get_or tubes k 0) ≡ true → row_line ρ s (k + 1) ≡ repeats (k + 1) (get_or tubes k 0)
  unfolding row_line
  line_repeats k h e = rw (add-one, void-at k h, e) (ap (repeats (suc k)) (sym (tube_at k h)))

  -- and of one whose tube none holds
  pub line_enters : (stations serials : List ℕ) → Scans s stations serials → (k : ℕ) → k < n → held_in tubes k (get_or tubes k 0) ≡ false
      → row_line ρ s (k + 1) ≡ enters (k + 1) (get_or tubes k 0) (get_or stations (get_or tubes k 0 - 1) 0) (get_or serials (get_or tubes k 0 - 1) 0)
  unfolding row_line
  line_enters stations serials f k h e =
      let t = row_tube ρ s (suc k) in
      let l : suc k ≤ reach ρ s = omega (arith, g.reached) in
      let d = f t (row_tube_range ρ s (suc k) (omega arith) l).0 (g.scanned (suc k) t (row_agreed ρ s (suc k) (omega arith) l)) in
      rw (add-one, void-at k h, e, tube_at k h) (ap (λ (x : ℕ × ℕ). enters (suc k) t x.0 x.1) d)

  -- each row has a tube, 1 to 64
  pub rows_known : n ≤ 64 → Rows tubes n
  rows_known h =
      record {
        few = h;
        low = λ r a b. rw (g.holds r a b) (row_tube_range ρ s r a (omega (arith, g.reached))).0;
        high = λ r a b. rw (g.holds r a b) (row_tube_range ρ s r a (omega (arith, g.reached))).1;
      }

-- ---- the whole

-- the closing lines, part by part
pub parts : (ρ : Room) (s : State) (n scanned e w : ℕ) (split : Bool) → n ≡ reach ρ s → scanned ≡ length s.intake → split ≡ eqb (stopped ρ s) 2 → e ≡ entered (book_of ρ s) → w ≡ length (waiting_of ρ s)
    → rows_text ρ s n ++ (waiting_text s (waiting_of ρ s) ++ (lines_text (pick split (splits (n + 1) ∷ []) []) ++ line_text (totals scanned e (n - e) w))) ≡ closing_of ρ s
unfolding closing_of lines_of split_line totals_line
parts ρ s n scanned e w split a b c d f =
    rw (
      b,
      c,
      d,
      f,
      a,
      add-one,
      book_length,
      lines-append (map (row_line ρ s) (up_to (reach ρ s))),
      lines-append (map (waiting_line s) (waiting_of ρ s)),
      lines-append (pick (eqb (stopped ρ s) 2) (splits (suc (reach ρ s)) ∷ []) []),
      append-nil,
    )
