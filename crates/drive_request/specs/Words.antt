-- A line as words, one blank apart, and as groups of words, parted by a lone `;`.
use Rattle.std.specs.Prelude.{ℕ, ◌+◌, ◌-◌, Bool, true, false, cond, not, ◌&&◌, List, [], ◌∷◌, suc, eqb, length, get_or, take, drop}
use Rattle.sets.specs.Lists.{all, total, is_nil}

-- a byte further on, unless it stands right here
abbrev pub index_after : Bool → ℕ → ℕ
index_after true k = 0
index_after false k = suc k

-- where a byte first stands; the length where it does not
unfoldable pub index_of : ℕ → List ℕ → ℕ
index_of b [] = 0
index_of b (x ∷ t) = index_after (eqb x b) (index_of b t)

-- a byte more at the front of the first word
abbrev pub onto : ℕ → List (List ℕ) → List (List ℕ)
onto b [] = (b ∷ []) ∷ []
onto b (w ∷ ws) = (b ∷ w) ∷ ws

-- the words: each ends at a blank or at the end of the text
unfoldable pub words_of : List ℕ → List (List ℕ)
words_of [] = []
words_of (b ∷ t) = cond (eqb b 32) ([] ∷ words_of t) (onto b (words_of t))

-- the first word
abbrev pub first_word : List ℕ → List ℕ
first_word t = take (index_of 32 t) t

-- what stands after it and its blank
abbrev pub after_word : List ℕ → List ℕ
after_word t = drop (index_of 32 t + 1) t

-- a lone `;`
abbrev pub is_part : List ℕ → Bool
is_part [] = false
is_part (b ∷ []) = eqb b 59
is_part (b ∷ d ∷ w) = false

-- the bytes of the words before the first lone `;`, each with the blank after it
unfoldable pub ahead : List (List ℕ) → ℕ
ahead [] = 0
ahead (w ∷ ws) = cond (is_part w) 0 (length w + 1 + ahead ws)

-- the first group, without the blank before its `;`
abbrev pub first_group : List ℕ → List ℕ
first_group t = take (ahead (words_of t) - 1) t

-- the groups after it, without the blank after its `;`
abbrev pub after_group : List ℕ → List ℕ
after_group t = drop (ahead (words_of t) + 2) t

-- the last byte is a blank
abbrev pub ends_blank : List ℕ → Bool
ends_blank t = eqb (get_or t (length t - 1) 0) 32

-- no word is empty
abbrev pub filled : List (List ℕ) → Bool
filled ws = all (λ w. not (is_nil w)) ws

-- the words that part groups
abbrev pub parts_in : List (List ℕ) → ℕ
parts_in ws = total (λ w. cond (is_part w) 1 0) ws

-- how many groups a line has; 0 where its words are not one blank apart
unfoldable pub groups_of : List ℕ → ℕ
groups_of t = cond (not (ends_blank t) && filled (words_of t)) (parts_in (words_of t) + 1) 0
