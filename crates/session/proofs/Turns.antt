-- What a line's turn, a byte and the end of the input come to, case by case, with what was written so far.
use mathlib.Core.Path.{◌≡◌, refl, sym, ap, subst, ◌∙◌}
use mathlib.Core.List.{List, [], ◌++◌}
use Prim.Native.Nat.{ℕ, ◌+◌, ◌-◌, ◌≤◌, ◌<◌}
use native.Mathlib.Nat.{zero-add}
use native.Mathlib.Numerals.{add-one}
use native.Mathlib.Omega.{arith}
use lib.Dec.{eqb}
use lib.ListN.{length, take, drop, set}
use lib.Seq.{length-take-le, take-suc-set}
use borrow.Author.Tests.{eq-eqb, ne_eqb, lt-ltb, le-ltb}
use Rattle.rules.specs.Tests.{pick}
use Rattle.rules.specs.Lent.{Memory, patch}
use Rattle.rules.proofs.Area.{part_patch}
use Rattle.lines.specs.declared.Parsed.{Parsed}
use Rattle.lines.specs.Grammar.{parsed}
use Rattle.closing.specs.Printed.{answer_text}
use Rattle.closing.specs.Given.{Wrote}
use Rattle.closing.proofs.Writing.{wrote_none, wrote_on}
use Rattle.page.specs.Sheet.{Heads, Sheet, Turn, sheet_of, turn, malformed, headed, stepped, begins, heading, takes, closes, ends}
use Rattle.page.specs.Held.{Started}
use Rattle.turn.specs.Given.{Took}
use Rattle.session.specs.Feed.{feed_of, longer, feeds, last_line}
use Rattle.session.specs.Held.{Ate, opens_and_ends}

pub as_turn : {t t' : Turn} {g : Sheet} {s s' : List ℕ} {at e : ℕ} → t ≡ t' → Took t' g s at e s' → Took t g s at e s'
as_turn {t} {t'} {g} {s} {s'} {at} {e} p w = subst (λ (x : Turn). Took x g s at e s') (sym p) w

-- a turn that prints nothing
pub in_silence : (h : Heads) (m : Memory) (s : List ℕ) → Took (turn h m []) (sheet_of h m) s 0 0 s
in_silence h m s = record { keeps = refl; prints = wrote_none s 0 }

-- ---- the line that begins the steps

abbrev begins_from : Turn → Parsed → Turn
begins_from o p = let t = stepped o.sheet.heads o.sheet.memory p.line p.pairs in
    pick (eqb o.sheet.heads.due 7) (record { sheet = t.sheet; prints = o.prints ++ t.prints }) o

module _ (h : Heads) (m : Memory) (g : Heads) (m' : Memory) (k : ℕ) (b : Started h m g m' k) (p : Parsed) where
  begins_as : begins h m p ≡ begins_from (turn g m' (answer_text k 0)) p
  unfolding begins
  begins_as = ap (λ (o : Turn). begins_from o p) (sym b.turn)

  refused : (g.due ≡ 7 → ⊥) → begins h m p ≡ turn g m' (answer_text k 0)
  refused n = begins_as ∙ rw (ne_eqb g.due 7 n)

  opened : g.due ≡ 7 → let t = stepped g m' p.line p.pairs in begins h m p ≡ record { sheet = t.sheet; prints = answer_text k 0 ++ t.prints }
  opened e = begins_as ∙ rw e

  pub took_refused : {s s' : List ℕ} {e : ℕ} → (g.due ≡ 7 → ⊥) → Wrote s 0 (answer_text k 0) e s' → Took (begins h m p) (sheet_of g m') s 0 e s'
  took_refused n w = as_turn (refused n) (record { keeps = refl; prints = w })

  pub took_opened : {s s' s'' : List ℕ} {at e : ℕ} {q : Sheet} → g.due ≡ 7 → Wrote s 0 (answer_text k 0) at s' → Took (stepped g m' p.line p.pairs) q s' at e s''
      → Took (begins h m p) q s 0 e s''
  took_opened d w t = as_turn (opened d) (record { keeps = t.keeps; prints = wrote_on (omega arith) w t.prints })

-- ---- a line while a heading is due

module _ (h : Heads) (m : Memory) (p : Parsed) (g : Heads) (e : g ≡ headed h p.line) where
  abbrev heading_from : Heads → Turn
  heading_from g = pick (eqb g.due 7) (begins g m p) (turn g m (pick (eqb g.due 8) malformed []))

  heading_as : heading h m p ≡ heading_from g
  unfolding heading
  heading_as = ap heading_from (sym e)

  pub heading-begins : g.due ≡ 7 → heading h m p ≡ begins g m p
  heading-begins d = heading_as ∙ rw d

  pub heading_bad : g.due ≡ 8 → heading h m p ≡ turn g m malformed
  heading_bad d = heading_as ∙ rw d

  pub heading_on : (g.due ≡ 7 → ⊥) → (g.due ≡ 8 → ⊥) → heading h m p ≡ turn g m []
  heading_on n k = heading_as ∙ rw (ne_eqb g.due 7 n, ne_eqb g.due 8 k)

-- ---- any line

module _ (h : Heads) (m : Memory) (p : Parsed) where
  pub takes_none : h.due ≡ 8 → takes (sheet_of h m) p ≡ turn h m []
  unfolding takes
  takes_none e = rw e

  pub takes-heading : (h.due ≡ 8 → ⊥) → (h.due ≡ 7 → ⊥) → takes (sheet_of h m) p ≡ heading h m p
  unfolding takes
  takes-heading n k = rw (ne_eqb h.due 8 n, ne_eqb h.due 7 k)

  pub takes_step : h.due ≡ 7 → takes (sheet_of h m) p ≡ stepped h m p.line p.pairs
  unfolding takes
  takes_step e = rw e

-- of a line that was read
pub as_read : (h : Heads) (m : Memory) {p q : Parsed} {t : Turn} → p ≡ q → takes (sheet_of h m) p ≡ t → takes (sheet_of h m) q ≡ t
as_read h m e k = sym (ap (takes (sheet_of h m)) e) ∙ k

-- ---- the end

-- a part written at the front of the area from a place on
pub wrote_part : {s s' xs : List ℕ} {at : ℕ} (ys : List ℕ) (r : ℕ) {s'' : List ℕ} → Wrote s 0 xs at s' → r ≡ length ys → s'' ≡ patch s' at ys → Wrote s 0 (xs ++ ys) (at + r) s''
wrote_part {at = at} ys r w e k = wrote_on (omega arith) w (record { ends = ap (λ (x : ℕ). at + x) e; area = k })

-- a part from a place on, written at its front and given back
pub put_part : (s : List ℕ) (at r : ℕ) (ys : List ℕ) {x : List ℕ} → r + at ≤ length s → r ≡ length ys → x ≡ patch (take (length s - at) (drop at s)) 0 ys
    → take at s ++ (x ++ drop (length s - at) (drop at s)) ≡ patch s at ys
put_part s at r ys h k e =
    ap (λ (t : List ℕ). take at s ++ (t ++ drop (length s - at) (drop at s))) e ∙ part_patch s ys at (length s - at) (omega (arith, k)) (omega arith)

module _ (h : Heads) (m : Memory) (g : Heads) (m' : Memory) (k : ℕ) (b : Started h m g m' k) where
  abbrev ends_from : Turn → List ℕ
  ends_from o = o.prints ++ pick (eqb o.sheet.heads.due 7) (closes o.sheet.memory) []

  pub ends-opened : g.due ≡ 7 → opens_and_ends h m ≡ answer_text k 0 ++ closes m'
  ends-opened e = ap ends_from (sym b.turn) ∙ rw e

  pub ends_refused : (g.due ≡ 7 → ⊥) → opens_and_ends h m ≡ answer_text k 0 ++ []
  ends_refused n = ap ends_from (sym b.turn) ∙ rw (ne_eqb g.due 7 n)

module _ (h : Heads) (m : Memory) where
  pub ends_none : h.due ≡ 8 → ends (sheet_of h m) ≡ []
  unfolding ends
  ends_none e = rw e

  pub ends_steps : h.due ≡ 7 → ends (sheet_of h m) ≡ closes m
  unfolding ends
  ends_steps e = rw e

  pub ends_weak : h.due ≡ 6 → ends (sheet_of h m) ≡ opens_and_ends h m
  unfolding ends
  ends_weak e = rw e

  pub ends_early : (h.due ≡ 8 → ⊥) → (h.due ≡ 7 → ⊥) → (h.due ≡ 6 → ⊥) → ends (sheet_of h m) ≡ malformed
  unfolding ends
  ends_early n k j = rw (ne_eqb h.due 8 n, ne_eqb h.due 7 k, ne_eqb h.due 6 j)

pub wrote_as : {xs ys : List ℕ} {s s' : List ℕ} {at e : ℕ} → ys ≡ xs → Wrote s at xs e s' → Wrote s at ys e s'
wrote_as {xs} {ys} {s} {s'} {at} {e} p w = subst (λ (x : List ℕ). Wrote s at x e s') (sym p) w

-- an area written at its front
pub wrote_front : {s s' : List ℕ} {r : ℕ} (ys : List ℕ) → r ≡ length ys → s' ≡ patch s 0 ys → Wrote s 0 ys r s'
wrote_front ys e k = record { ends = e ∙ sym (zero-add (length ys)); area = k }

-- ---- a byte

module _ (line : List ℕ) (held b : ℕ) where
  pub kept_none : held ≤ length line → 201 ≤ held → take held line ≡ longer (take held line) b
  unfolding longer
  kept_none h k = rw (length-take-le held line h, le-ltb held 201 k)

  pub kept_more : held < length line → held < 201 → take (held + 1) (set line held b) ≡ longer (take held line) b
  unfolding longer
  kept_more h k = rw (length-take-le held line (omega arith), lt-ltb held 201 k, add-one, take-suc-set line held b h)

pub ate_byte : (s : Sheet) (l : List ℕ) (b : ℕ) (out : List ℕ) {l' : List ℕ} → (b ≡ 10 → ⊥) → l' ≡ longer l b → Ate (feeds (feed_of s l) b) (feed_of s l') out 0 out
unfolding feeds
ate_byte s l b out n e = rw (ne_eqb b 10 n) (record { keeps = ap (feed_of s) e; prints = wrote_none out 0 })

pub ate_line : (s : Sheet) (l : List ℕ) (b : ℕ) {g : Sheet} {out out' : List ℕ} {e : ℕ} → b ≡ 10 → Took (takes s (parsed l)) g out 0 e out' → Ate (feeds (feed_of s l) b) (feed_of g []) out e out'
unfolding feeds
ate_line s l b d t = rw (eq-eqb b 10 d) (record { keeps = ap (λ (x : Sheet). feed_of x []) t.keeps; prints = t.prints })

-- ---- the end of the input

pub last_none : (s : Sheet) (l : List ℕ) → length l ≡ 0 → last_line (feed_of s l) ≡ ends s
unfolding last_line
last_none s l e = rw (eq-eqb (length l) 0 e)

pub last_some : (s : Sheet) (l : List ℕ) {h : Heads} {m : Memory} {out out' : List ℕ} {at : ℕ} → (length l ≡ 0 → ⊥) → Took (takes s (parsed l)) (sheet_of h m) out 0 at out'
    → last_line (feed_of s l) ≡ (takes s (parsed l)).prints ++ ends (sheet_of h m)
unfolding last_line
last_some s l n t = rw (ne_eqb (length l) 0 n, t.keeps)
