-- What `all` over a chain answers, in the words of the rules.
use mathlib.Core.Path.{◌≡◌, refl, ap, sym, ◌∙◌}
use mathlib.Core.Bool.{Bool, true, false, ◌&&◌}
use mathlib.Core.List.{List}
use Prim.Native.Nat.{ℕ}
use native.Mathlib.Nat.{zero-add}
use native.Mathlib.Omega.{arith}
use denote.Param.Members.{Mut}
use lib.ListN.{length, take, get_or}
use lib.Seq.{take-length}
use Rattle.std.specs.Fn.{Called}
use Rattle.std.specs.Iterator.{YieldsThen}
use Rattle.std.specs.List.{FoldsTo, list_all, range_with_len}
use Rattle.std.specs.Option.{MatchOption}
use Rattle.std.proofs.Common.{Option}
use Rattle.std.specs.declared.ops.Range.{Range}
use Rattle.std.proofs.iter.Yields.{nat_range_steps}
use Rattle.std.proofs.lemmas.Iterator.{YieldsList, YieldsList-from_range}
use Rattle.std.proofs.lemmas.Iterator.Search.{all_from_yields_List}
use Rattle.std.proofs.lemmas.List.Recursion.{same_from_clauses}
use Rattle.std.proofs.lemmas.List.FromFn.{length-range_with_len, get_or-range_with_len}
use Rattle.rules.specs.Tests.{all, all_below}
use Rattle.rules.proofs.Each.{each_same, all_take}

all_is : {A : Type 0} (p : A → Bool) (l : List A) → list_all p l ≡ all p l
all_is p = same_from_clauses (list_all p) (all p) (λ x r. p x && r) refl (λ _ _. refl) (λ _ _. refl)

-- what `all` answers over a chain that yields the list, where the closure computes the test
pub all_says : {S A B F : Type 0} {steps : S → Option A → S → Type 0} {v : A → B} {g : Mut F (A × Unit {0}) Bool} {s : S} {l : List B} (test : B → Bool) (u : S) (f : F) (r : Bool)
    → (xs : List A) × (o : Option A) × (j : F) × YieldsThen steps s xs o u × FoldsTo (λ p x q. Called g p (x, tt) true q) f xs j × MatchOption o (r ≡ true) (λ x. (r ≡ false) × ((h : F) × Called g j (x, tt) false h))
    → YieldsList steps v s l
    → ((x : A) (b : Bool) (q : F) → Called g f (x, tt) b q → (q ≡ f) × (b ≡ test (v x)))
    → r ≡ all test l
all_says {l = l} test u f r ran road closure = all_from_yields_List test u f r ran road closure ∙ all_is test l

-- the same over the numbers below n
all_numbers : (p : ℕ → Bool) (n : ℕ) → all p (range_with_len 0 n) ≡ all_below p n
all_numbers p n =
    let l = range_with_len 0 n in
    let len : length l ≡ n = length-range_with_len 0 n in
    ap (all p) (sym (take-length l) ∙ ap (λ (k : ℕ). take k l) len)
    ∙ all_take p l n (omega arith)
    ∙ each_same (λ i. p (get_or l i 0)) p n (λ i h. ap p (get_or-range_with_len 0 n i 0 h ∙ zero-add i))

pub below_says : {F : Type 0} {g : Mut F (ℕ × Unit {0}) Bool} {s : Range ℕ} (test : ℕ → Bool) (n : ℕ) (u : Range ℕ) (f : F) (r : Bool)
    → (xs : List ℕ) × (o : Option ℕ) × (j : F) × YieldsThen nat_range_steps s xs o u × FoldsTo (λ p x q. Called g p (x, tt) true q) f xs j × MatchOption o (r ≡ true) (λ x. (r ≡ false) × ((h : F) × Called g j (x, tt) false h))
    → s ≡ record { start = 0; end = n }
    → ((x : ℕ) (b : Bool) (q : F) → Called g f (x, tt) b q → (q ≡ f) × (b ≡ test x))
    → r ≡ all_below test n
below_says test n u f r ran s closure =
    all_says test u f r ran (YieldsList-from_range 0 n n s (omega arith)) closure ∙ all_numbers test n
