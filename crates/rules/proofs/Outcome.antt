-- A row's outcome is none, one tube or a split exactly where no tube, one or two different tubes are chosen.
use mathlib.Core.Path.{◌≡◌, refl, sym, ap, ◌∙◌}
use mathlib.Core.Logic.{◌↔◌}
use mathlib.Core.List.Memᴰ
use mathlib.Core.List.{List, [], ◌∷◌, Memᴰ}
use Prim.Native.Nat.{ℕ, ◌≤◌, ◌<◌}
use native.Mathlib.Omega.{arith}
use lib.Dec.{T, leb, ltb, leb→le, le→leb, ltb→lt}
use Rattle.rules.specs.Tests.{any_below, keep, up_to}
use Rattle.rules.specs.Words.{Room, State}
use Rattle.rules.specs.Steps.{chosen}
use Rattle.rules.specs.Book.{chosen_in, unchosen, agreed, split, among, outcome}
use Rattle.rules.specs.Laws.{InSomeBallot, Chosen, NoneChosen, OneChosen, TwoChosen, climbs}
use Rattle.rules.proofs.Sound.{and_l, and_r, below_sound, and_two}
use Rattle.rules.proofs.Lists.{below_in, up_in, up_out, keep_in, keep_out, climbs_up, climbs-keep}

pub in_some_ballot : InSomeBallot
unfolding chosen_in
in_some_ballot ρ s r v = (there, λ z. below_in (λ b. chosen ρ s r b v) 16 z.0 (omega (arith, z.1)) z.2)
  where
    there : T (any_below (λ b. chosen ρ s r b v) 16) → (b : ℕ) × (b ≤ 15) × T (chosen ρ s r b v)
    there t = let z = below_sound (λ b. chosen ρ s r b v) 16 t in (z.0, omega (arith, z.1), z.2)

-- ---- what a list of different numbers holds

abbrev None : List ℕ → Type 0
None l = (v : ℕ) → ¬ (Memᴰ v l)

abbrev One : List ℕ → ℕ → Type 0
One l v = Memᴰ v l × ((w : ℕ) → Memᴰ w l → w ≡ v)

abbrev Two : List ℕ → Type 0
Two l = (v : ℕ) × (w : ℕ) × Memᴰ v l × Memᴰ w l × (¬ (v ≡ w))

none_in : (l : List ℕ) → (among l ≡ unchosen) ↔ None l
none_in [] = (λ e v m. Memᴰ.not-nil m, λ h. refl)
none_in (x ∷ []) = (λ e v m. let z : ◌≡◌ {A = ℕ} 0 1 = cc in omega arith, λ h. absurd (h x (Memᴰ.head refl)))
none_in (x ∷ y ∷ l) = (λ e v m. let z : ◌≡◌ {A = ℕ} 0 1 = cc in omega arith, λ h. absurd (h x (Memᴰ.head refl)))

step : (k x y : ℕ) (l : List ℕ) → T (climbs k (x ∷ y ∷ l)) → x < y
step k x y l t = ltb→lt x y (and_l (ltb x y) (climbs y l) (and_r (ltb k x) (climbs x (y ∷ l)) t))

one_in : (l : List ℕ) (v : ℕ) → T (climbs 0 l) → (among l ≡ agreed v) ↔ One l v
one_in [] v t = (λ e. let z : ◌≡◌ {A = ℕ} 0 1 = cc in absurd (omega arith), λ h. absurd (Memᴰ.not-nil h.0))
one_in (x ∷ []) v t = (λ e. let d : v ≡ x = cc in (Memᴰ.head d, λ w m. Memᴰ.eq_of_singleton m ∙ sym d), λ h. ap agreed (sym (Memᴰ.eq_of_singleton h.0)))
one_in (x ∷ y ∷ l) v t = (
  λ e. let z : ◌≡◌ {A = ℕ} 0 1 = cc in absurd (omega arith),
  λ h. absurd (omega (arith, step 0 x y l t, h.1 x (Memᴰ.head refl), h.1 y (Memᴰ.tail (Memᴰ.head refl)))),
)

two_in : (l : List ℕ) → T (climbs 0 l) → (among l ≡ split) ↔ Two l
two_in [] t = (λ e. let z : ◌≡◌ {A = ℕ} 0 1 = cc in absurd (omega arith), λ h. absurd (Memᴰ.not-nil h.2))
two_in (x ∷ []) t = (λ e. let z : ◌≡◌ {A = ℕ} 0 1 = cc in absurd (omega arith), λ h. absurd (h.4 (Memᴰ.eq_of_singleton h.2 ∙ sym (Memᴰ.eq_of_singleton h.3))))
two_in (x ∷ y ∷ l) t = (λ e. (x, y, Memᴰ.head refl, Memᴰ.tail (Memᴰ.head refl), λ d. omega (arith, step 0 x y l t)), λ h. refl)

-- ---- the chosen tubes

abbrev tubes : Room → State → ℕ → List ℕ
tubes ρ s r = keep (chosen_in ρ s r) (up_to 64)

climbing : (ρ : Room) (s : State) (r : ℕ) → T (climbs 0 (tubes ρ s r))
climbing ρ s r = climbs-keep (chosen_in ρ s r) 0 (up_to 64) (climbs_up 64)

held : (ρ : Room) (s : State) (r v : ℕ) → Memᴰ v (tubes ρ s r) ↔ Chosen ρ s r v
held ρ s r v = (there, back)
  where
    there : Memᴰ v (tubes ρ s r) → Chosen ρ s r v
    there m =
        let k = keep_out (chosen_in ρ s r) (up_to 64) v m in
        let h = up_out 64 v k.0 in
        (and_two (leb 1 v) (leb v 64) (le→leb 1 v h.0) (le→leb v 64 h.1), k.1)

    back : Chosen ρ s r v → Memᴰ v (tubes ρ s r)
    back h =
        let l = leb→le 1 v (and_l (leb 1 v) (leb v 64) h.0) in
        let k = leb→le v 64 (and_r (leb 1 v) (leb v 64) h.0) in
        keep_in (chosen_in ρ s r) (up_to 64) v (up_in 64 v l k) h.1

pub none_chosen : NoneChosen
unfolding outcome
none_chosen ρ s r =
    let a = none_in (tubes ρ s r) in (
      λ e v h. a.0 e v ((held ρ s r v).1 h),
      λ f. a.1 (λ v m. f v ((held ρ s r v).0 m)),
    )

pub one-chosen : OneChosen
unfolding outcome
one-chosen ρ s r v =
    let a = one_in (tubes ρ s r) v (climbing ρ s r) in (
      λ e. ((held ρ s r v).0 (a.0 e).0, λ w h. (a.0 e).1 w ((held ρ s r w).1 h)),
      λ f. a.1 ((held ρ s r v).1 f.0, λ w m. f.1 w ((held ρ s r w).0 m)),
    )

pub two-chosen : TwoChosen
unfolding outcome
two-chosen ρ s r =
    let a = two_in (tubes ρ s r) (climbing ρ s r) in (
      λ e. let z = a.0 e in (z.0, z.1, (held ρ s r z.0).0 z.2, (held ρ s r z.1).0 z.3, z.4),
      λ f. a.1 (f.0, f.1, (held ρ s r f.0).1 f.2, (held ρ s r f.1).1 f.3, f.4),
    )
