-- The house record as 459 bytes, numbers little-endian: how it is written, and what such bytes are read as.
use Rattle.std.specs.Prelude.{List, [], ◌∷◌, ◌++◌, ℕ, zero, suc, ◌+◌, ◌*◌, ◌/◌, ◌%◌, get_or, take, drop}
use Rattle.rules.specs.declared.House.{House}

abbrev pub two : ℕ → List ℕ
two x = x % 256 ∷ x / 256 ∷ []

abbrev pub four : ℕ → List ℕ
four x = x % 256 ∷ x / 256 % 256 ∷ x / 65536 % 256 ∷ x / 16777216 ∷ []

-- the first n scans: station 1, serial 4
abbrev pub scans : List ℕ → List ℕ → ℕ → List ℕ
scans a b zero = []
scans a b (suc n) = scans a b n ++ (get_or a n 0 ∷ four (get_or b n 0))

-- nodes 1, faulty 1, rows 1, capacity 2, quorum count 1, weak count 1
abbrev pub counts : House → List ℕ
counts h = h.nodes ∷ h.faulty ∷ h.rows ∷ (two h.capacity ++ (h.listed ∷ h.backers ∷ []))

-- then 64 quorum sets, 64 weak sets, tubes scanned 1, 64 scans, marks 1, messages 2
unfoldable pub image : House → List ℕ
image h = counts h ++ (h.quorums ++ (h.weaks ++ (h.tubes ∷ (scans h.stations h.serials 64 ++ (h.marks ∷ two h.count)))))

-- ---- the same bytes, read

abbrev pub two_at : List ℕ → ℕ → ℕ
two_at s k = get_or s k 0 + 256 * get_or s (k + 1) 0

abbrev pub four_at : List ℕ → ℕ → ℕ
four_at s k = get_or s k 0 + 256 * get_or s (k + 1) 0 + 65536 * get_or s (k + 2) 0 + 16777216 * get_or s (k + 3) 0

abbrev pub stations_at : List ℕ → ℕ → List ℕ
stations_at s zero = []
stations_at s (suc n) = stations_at s n ++ (get_or s (5 * n) 0 ∷ [])

abbrev pub serials_at : List ℕ → ℕ → List ℕ
serials_at s zero = []
serials_at s (suc n) = serials_at s n ++ (four_at s (5 * n + 1) ∷ [])

unfoldable pub house_at : List ℕ → House
house_at s = record {
  nodes = get_or s 0 0;
  faulty = get_or s 1 0;
  rows = get_or s 2 0;
  capacity = two_at s 3;
  listed = get_or s 5 0;
  backers = get_or s 6 0;
  quorums = take 64 (drop 7 s);
  weaks = take 64 (drop 71 s);
  tubes = get_or s 135 0;
  stations = stations_at (drop 136 s) 64;
  serials = serials_at (drop 136 s) 64;
  marks = get_or s 456 0;
  count = two_at s 457;
}
