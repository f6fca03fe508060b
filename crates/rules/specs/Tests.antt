-- Tests over lists, node sets and numbers that the rules are written with.
use Rattle.std.specs.Prelude.{Bool, true, false, not, ◌&&◌, ◌||◌, List, [], ◌∷◌, ◌++◌, ℕ, zero, suc, ◌+◌, ◌/◌, ◌%◌, ◌^◌, eqb}

abbrev pub pick {ℓ} : {A : Type ℓ} → Bool → A → A → A
pick true a b = a
pick false a b = b

-- some element passes
abbrev pub any : {A : Type 0} → (A → Bool) → List A → Bool
any p [] = false
any p (x ∷ xs) = p x || any p xs

-- every element passes
abbrev pub all : {A : Type 0} → (A → Bool) → List A → Bool
all p [] = true
all p (x ∷ xs) = p x && all p xs

-- some number below n passes
abbrev pub any_below : (ℕ → Bool) → ℕ → Bool
any_below p zero = false
any_below p (suc n) = p n || any_below p n

-- every number below n passes
abbrev pub all_below : (ℕ → Bool) → ℕ → Bool
all_below p zero = true
all_below p (suc n) = p n && all_below p n

-- the elements that pass, in order
abbrev pub keep : (ℕ → Bool) → List ℕ → List ℕ
keep p [] = []
keep p (x ∷ xs) = pick (p x) (x ∷ keep p xs) (keep p xs)

-- the numbers from 1 to n
abbrev pub up_to : ℕ → List ℕ
up_to zero = []
up_to (suc n) = up_to n ++ (suc n ∷ [])

-- no two elements are the same
abbrev pub distinct : {A : Type 0} → (A → A → Bool) → List A → Bool
distinct same [] = true
distinct same (x ∷ l) = not (any (same x) l) && distinct same l

-- two lists are the same
abbrev pub eqs : List ℕ → List ℕ → Bool
eqs [] [] = true
eqs [] (y ∷ t) = false
eqs (x ∷ s) [] = false
eqs (x ∷ s) (y ∷ t) = eqb x y && eqs s t

-- n numbers of a list, with zeros where it ends
abbrev pub fit : ℕ → List ℕ → List ℕ
fit zero l = []
fit (suc n) [] = 0 ∷ fit n []
fit (suc n) (x ∷ l) = x ∷ fit n l

-- n times the same bytes
abbrev pub many : ℕ → List ℕ → List ℕ
many zero w = []
many (suc n) w = w ++ many n w

-- bit n of x; of a node set: it has node n
abbrev pub bit : ℕ → ℕ → Bool
bit x n = eqb (x / 2 ^ n % 2) 1

-- every node below n of the set q passes
abbrev pub all_in : ℕ → ℕ → (ℕ → Bool) → Bool
all_in zero q p = true
all_in (suc n) q p = (not (bit q n) || p n) && all_in n q p

abbrev pub one : Bool → ℕ
one true = 1
one false = 0

-- how many numbers below n pass
unfoldable pub count : (ℕ → Bool) → ℕ → ℕ
count p zero = 0
count p (suc n) = one (p n) + count p n

-- the number of the first test that fails, 0 if none does
abbrev pub first : List (Bool × ℕ) → ℕ
first [] = 0
first (x ∷ xs) = pick x.0 (first xs) x.1
