-- The bytes of an input, taken one after another, print what its lines print: the line in hand stands before the first part of what is left.
use mathlib.Core.Path.{◌≡◌, refl, sym, ap, ◌∙◌}
use mathlib.Core.Bool.{Bool, true, false}
use mathlib.Core.List.{List, [], ◌∷◌, ◌++◌, append_assoc, append-nil}
use Prim.Native.Nat.{ℕ, suc, ◌≤◌}
use native.Mathlib.Omega.{arith}
use lib.Dec.{eqb, ltb}
use lib.ListN.{length, take, length-take, length-append}
use lib.Seq.{take_all, take-append-le}
use borrow.Author.Tests.{ltb-true, ltb-false, ne_eqb}
use Rattle.rules.specs.Tests.{pick}
use Rattle.lines.specs.declared.Parsed.{Parsed}
use Rattle.lines.specs.Splits.{parts, onto}
use Rattle.lines.specs.Grammar.{parsed}
use Rattle.lines.proofs.Forms.{long_alike}
use Rattle.page.specs.Sheet.{Sheet, takes, ends, trimmed, lines_in, printed}
use Rattle.session.specs.Feed.{Fed, feed_of, longer, feeds, last_line, printed_of}

-- ---- the first 201 bytes of a line stand for it

abbrev cut : List ℕ → List ℕ
cut l = take 201 l

cut-long : (l : List ℕ) → 201 ≤ length l → length (cut l) ≡ 201
cut-long l h = length-take 201 l ∙ omega arith

parsed-cut : (l : List ℕ) → parsed (cut l) ≡ parsed l
parsed-cut l = go (ltb (length l) 201) refl
  where
    go : (q : Bool) → ltb (length l) 201 ≡ q → parsed (take 201 l) ≡ parsed l
    go true e = ap parsed (take_all 201 l (omega (arith, ltb-true (length l) 201 e)))
    go false e =
        let h = ltb-false (length l) 201 e in
        let k : length (take 201 l) ≡ 201 = cut-long l h in
        long_alike (take 201 l) l (omega arith) (omega arith)

longer-cut : (l : List ℕ) (b : ℕ) → longer (cut l) b ≡ cut (l ++ (b ∷ []))
unfolding longer
longer-cut l b = go (ltb (length l) 201) refl
  where
    go : (q : Bool) → ltb (length l) 201 ≡ q → pick (ltb (length (take 201 l)) 201) (take 201 l ++ (b ∷ [])) (take 201 l) ≡ take 201 (l ++ (b ∷ []))
    go true e =
        let h = ltb-true (length l) 201 e in
        let k : length (l ++ (b ∷ [])) ≤ 201 = simp length-append (omega arith) in
        rw (take_all 201 l (omega arith), e, take_all 201 (l ++ (b ∷ [])) k)
    go false e =
        let h = ltb-false (length l) 201 e in
        let k : length (take 201 l) ≡ 201 = cut-long l h in
        rw (k, take-append-le 201 l (b ∷ []) h)

-- ---- the parts of what is left, the line in hand before the first

abbrev ahead : List ℕ → List (List ℕ) → List (List ℕ)
ahead l [] = l ∷ []
ahead l (p ∷ ps) = (l ++ p) ∷ ps

-- a text has a first part
record Some (ps : List (List ℕ)) : Type 0 where
  first : List ℕ
  rest : List (List ℕ)
  are : ps ≡ first ∷ rest

some_onto : (b : ℕ) (ps : List (List ℕ)) → Some (onto b ps)
some_onto b [] = record { first = b ∷ []; rest = []; are = refl }
some_onto b (p ∷ ps) = record { first = b ∷ p; rest = ps; are = refl }

some : (s : List ℕ) → Some (parts 10 s)
some [] = record { first = []; rest = []; are = refl }
some (b ∷ s) = go (eqb b 10)
  where
    go : (q : Bool) → Some (pick q ([] ∷ parts 10 s) (onto b (parts 10 s)))
    go true = record { first = []; rest = parts 10 s; are = refl }
    go false = some_onto b (parts 10 s)

trimmed-more : (s p : List ℕ) (ps : List (List ℕ)) → trimmed (s ∷ p ∷ ps) ≡ s ∷ trimmed (p ∷ ps)
trimmed-more [] p ps = refl
trimmed-more (b ∷ s) p ps = refl

-- a line that ends
ended : (l : List ℕ) (ps : List (List ℕ)) → Some ps → trimmed (ahead l ([] ∷ ps)) ≡ l ∷ trimmed (ahead [] ps)
ended l ps g =
    ap (λ (x : List (List ℕ)). trimmed (ahead l ([] ∷ x))) g.are ∙ ap (λ (x : List ℕ). trimmed (x ∷ g.first ∷ g.rest)) (append-nil l)
    ∙ trimmed-more l g.first g.rest ∙ sym (ap (λ (x : List (List ℕ)). l ∷ trimmed (ahead [] x)) g.are)

-- a byte more of the line in hand
onward : (l : List ℕ) (b : ℕ) (ps : List (List ℕ)) → Some ps → ahead l (onto b ps) ≡ ahead (l ++ (b ∷ [])) ps
onward l b ps g = rw (g.are, append_assoc)

-- ---- the end, and every byte

last_some : (s : Sheet) (b : ℕ) (l : List ℕ) → last_line (feed_of s (b ∷ l)) ≡ (let t = takes s (parsed (b ∷ l)) in t.prints ++ ends t.sheet)
unfolding last_line
last_some s b l = rw (ne_eqb (suc (length l)) 0 (λ z. absurd (omega arith)))

last : (s : Sheet) (l : List ℕ) → last_line (feed_of s (cut l)) ≡ printed s (trimmed (ahead l ([] ∷ [])))
unfolding printed last_line
last s [] = refl
last s (b ∷ l) =
    last_some s b (take 200 l) ∙ ap (λ (p : Parsed). let t = takes s p in t.prints ++ ends t.sheet) (parsed-cut (b ∷ l))
    ∙ sym (ap (λ (x : List ℕ). printed s (trimmed (x ∷ []))) (append-nil (b ∷ l)))

newline : (s : Sheet) (l : List ℕ) (b : ℕ) → eqb b 10 ≡ true → let t = takes s (parsed l) in feeds (feed_of s l) b ≡ record { feed = feed_of t.sheet []; prints = t.prints }
unfolding feeds
newline s l b e = rw e

other : (s : Sheet) (l : List ℕ) (b : ℕ) → eqb b 10 ≡ false → feeds (feed_of s l) b ≡ record { feed = feed_of s (longer l b); prints = [] }
unfolding feeds
other s l b e = rw e

module _ (s : Sheet) (l : List ℕ) (b : ℕ) (input : List ℕ) where
  taken : Fed → List ℕ
  taken t = t.prints ++ printed_of t.feed input

  abbrev Streams : Sheet → List ℕ → Type 0
  Streams s l = printed_of (feed_of s (cut l)) input ≡ printed s (trimmed (ahead l (parts 10 input)))

  stream_by : (q : Bool) → eqb b 10 ≡ q → ((s : Sheet) (l : List ℕ) → Streams s l)
      → taken (feeds (feed_of s (cut l)) b) ≡ printed s (trimmed (ahead l (pick q ([] ∷ parts 10 input) (onto b (parts 10 input)))))
  unfolding printed taken
  stream_by true e more =
      let t = takes s (parsed l) in
      ap taken (newline s (cut l) b e) ∙ ap (λ (p : Parsed). let t = takes s p in t.prints ++ printed_of (feed_of t.sheet []) input) (parsed-cut l)
      ∙ ap (λ (x : List ℕ). t.prints ++ x) (more t.sheet []) ∙ sym (ap (printed s) (ended l (parts 10 input) (some input)))
  stream_by false e more =
      ap taken (other s (cut l) b e) ∙ ap (λ (x : List ℕ). printed_of (feed_of s x) input) (longer-cut l b) ∙ more s (l ++ (b ∷ []))
      ∙ sym (ap (λ (x : List (List ℕ)). printed s (trimmed x)) (onward l b (parts 10 input) (some input)))

stream : (input : List ℕ) (s : Sheet) (l : List ℕ) → Streams s l 0 input s l
unfolding printed_of taken
stream [] s l = last s l
stream (b ∷ input) s l = stream_by s l b input (eqb b 10) refl (stream input)

pub read_as_lines : (s : Sheet) (input : List ℕ) → printed_of (feed_of s []) input ≡ printed s (lines_in input)
read_as_lines s input = stream input s [] ∙ rw (some input).are
