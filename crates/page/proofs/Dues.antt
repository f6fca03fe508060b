-- What is due is told by its number.
use mathlib.Core.Path.{◌≡◌, refl, sym, ap, ◌∙◌}
use mathlib.Core.List.{List, [], ◌∷◌}
use Prim.Native.Nat.{ℕ, ◌+◌, ◌-◌, ◌≤◌}
use native.Mathlib.Omega.{arith}
use lib.ListN.{get_or}
use Rattle.std.proofs.lemmas.List.{get_or_past}
use Rattle.page.specs.declared.Due.{Due}
use Rattle.page.specs.declared.Due.TheVariants.{Nodes, Faulty, Rows, Capacity, Quorum, Weak, Weaks, Step, Nothing, Later}
use Rattle.page.specs.Held.{due_of}

abbrev in_use : List Due
in_use = Nodes ∷ Faulty ∷ Rows ∷ Capacity ∷ Quorum ∷ Weak ∷ Weaks ∷ Step ∷ Nothing ∷ []

named : ℕ → Due
named k = get_or in_use k (Later (k - 9))

back : (d : Due) → named (due_of d) ≡ d
unfolding named
back Nodes = refl
back Faulty = refl
back Rows = refl
back Capacity = refl
back Quorum = refl
back Weak = refl
back Weaks = refl
back Step = refl
back Nothing = refl
back (Later n) =
    let past : 9 ≤ 9 + n = omega arith in
    let less : 9 + n - 9 ≡ n = omega arith in
    get_or_past in_use (9 + n) (Later (9 + n - 9)) past ∙ ap Later less

pub apart : (d e : Due) → (d ≡ e → ⊥) → due_of d ≡ due_of e → ⊥
apart d e n k = n (sym (back d) ∙ ap named k ∙ back e)
