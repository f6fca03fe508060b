-- A foreign 1b within limits: the parts of its test 6, and how it is stored.
use Rattle.std.proofs.Common.{◌≡◌, refl, sym, ◌∙◌, Bool, true, false, ◌&&◌, List, ℕ, leb, ltb}
use Rattle.rules.specs.Words.{height_of, bal_in, Room}
use Rattle.rules.specs.Lent.{pairs_of, pair_bytes, stored, row_in, pairs_in, limits}
use Rattle.rules.specs.Steps.{p1b, posted}
use Rattle.rules.specs.Replies.{pairs_plain, post_in}
use Rattle.rules.proofs.Sound.{and_r}
use Rattle.rules.proofs.Scan.{eqs_means}
use Rattle.rules.proofs.Forms.{length_pairs, height_back}

module _ (r b n x y k : ℕ) (l : List ℕ) where
  abbrev formed : Bool
  formed = pairs_in (pairs_of k l) && pairs_plain k l

  -- test 6, by its three parts
  pub tested : (ρ : Room) (a h p : Bool) → ((row_in ρ r && bal_in b) && ltb n ρ.nodes) ≡ a → (leb (height_of x) 16 && leb y 64) ≡ h → formed ≡ p
      → post_in ρ (p1b r b n x y k l) ≡ (a && h) && p
  unfolding limits
  tested ρ a h p e f g = parts (row_in ρ r && bal_in b) (ltb n ρ.nodes) (leb (height_of x) 16) (leb y 64) (pairs_in (pairs_of k l)) (pairs_plain k l) ∙ (λ i. (e i && f i) && g i)
    where
      parts : (a c d e f g : Bool) → (a && (c && (d && (e && f)))) && g ≡ ((a && c) && (d && e)) && (f && g)
      parts true true true true f g = refl
      parts true true true false f g = refl
      parts true true false e f g = refl
      parts true false d e f g = refl
      parts false c d e f g = refl

  -- the same numbers as bytes, and its pair array is that of the pairs it counts
  pub stored_1b : {z r' b' n' : ℕ} {l' : List ℕ} → z ≡ 2 → (r' ≡ r) × (b' ≡ b) × (n' ≡ n) → l' ≡ l → formed ≡ true
      → record { kind = z; row = r'; bal = b'; node = n'; tube = 0; mbal = x; mval = y; count = k; pairs = l' } ≡ stored (posted (p1b r b n x y k l))
  unfolding stored
  stored_1b d e f g =
      let t : l ≡ pair_bytes (pairs_of k l) = eqs_means l (pair_bytes (pairs_of k l)) (and_r (pairs_in (pairs_of k l)) (pairs_plain k l) (rw g tt)) in
      λ i. record { kind = d i; row = e.0 i; bal = e.1 i; node = e.2 i; tube = 0; mbal = sym (height_back x) i; mval = y; count = sym (length_pairs k l) i; pairs = (f ∙ t) i }
