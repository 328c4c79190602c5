-- A word is a name exactly where it is written so, as numbers in decimal read back; and so for the names of a line, one by one. Assumes nothing.
use Prim.Native.Nat.{ℕ, zero, suc, ◌≤◌}
use mathlib.Core.Path.{◌≡◌, refl, sym, ap, ap₂, ◌∙◌, subst}
use mathlib.Core.Logic.{◌↔◌}
use mathlib.Core.Bool.{Bool, true, false, cond, not, ◌&&◌}
use mathlib.Core.List.Memᴰ
use mathlib.Core.List.Memᴰ.{head as here}
use mathlib.Core.List.{List, [], ◌∷◌, ◌++◌, map}
use mathlib.Core.Option.{Option, none, some}
use native.Mathlib.Omega.{arith}
use lib.Dec.{eqb, leb, ltb}
use lib.ListN.{length, length-map}
use borrow.Author.Tests.{eqb-true, ne_eqb, leb-true, le-leb}
use Rattle.sets.{specs.Lists.all, specs.Lists.from, specs.Sets.same, specs.Sets.asc, proofs.Rows.from-length}
use Rattle.sets.proofs.Truth.{both, together, clash}
use Rattle.sets.proofs.Lists.{all_in, all-out, all_append, pairwise_append, map-out}
use Rattle.sets.proofs.Sets.{same-eq, same_self, eq-same}
use Rattle.table_lines.specs.Meaning.{lacks}
use Rattle.letters.specs.{Letters.decimal, Letters.name_text, Meaning.read_back, Meaning.is_digit}
use Rattle.letters.proofs.Numbers.{decimal-value, decimal-digits}
use Rattle.blif_laws.specs.Text.{Name, variable, output, name_word, first_names}
use Rattle.blif_laws.specs.Reading.{and_then, number_in, name_in, in_turn, Named, read_more, last_name, read_name, names_in}
use Rattle.blif_laws.specs.Meaning.{is_clear, NamesLine}
use Rattle.blif_laws.proofs.Cutting.{clear_in}

-- ---- what is read before going on

module _ {A B : Type 0} where
  pub then-out : (o : Option A) (k : A → Option B) (y : B) → and_then o k ≡ some y → (x : A) × (o ≡ some x) × (k x ≡ some y)
  then-out none k y e = let z : ◌≡◌ {A = ℕ} 0 1 = cc in absurd (omega arith)
  then-out (some x) k y e = (x, refl, e)

  pub then-in : {x : A} {y : B} (o : Option A) (k : A → Option B) → o ≡ some x → k x ≡ some y → and_then o k ≡ some y
  then-in o k e f = rw e f

module _ {A : Type 0} where
  -- what a test lets through
  pub passed : (b : Bool) (o : Option A) (x : A) → cond b o none ≡ some x → (b ≡ true) × (o ≡ some x)
  passed true o x e = (refl, e)
  passed false o x e = let z : ◌≡◌ {A = ℕ} 0 1 = cc in absurd (omega arith)

  pub passes : {b : Bool} {x : A} (o : Option A) → b ≡ true → o ≡ some x → cond b o none ≡ some x
  passes o h e = rw h e

-- ---- numbers

pub number-iff : (ds : List ℕ) (n : ℕ) → (number_in ds ≡ some n) ↔ (ds ≡ decimal n)
unfolding number_in
number-iff ds n = (into, back)
  where
    into : cond (same (decimal (read_back 0 ds)) ds) (some (read_back 0 ds)) none ≡ some n → ds ≡ decimal n
    into e =
        let r = passed (same (decimal (read_back 0 ds)) ds) (some (read_back 0 ds)) n e in
        let q : read_back 0 ds ≡ n = cc r.1 in
        sym (same-eq (decimal (read_back 0 ds)) ds r.0) ∙ ap decimal q

    back : ds ≡ decimal n → cond (same (decimal (read_back 0 ds)) ds) (some (read_back 0 ds)) none ≡ some n
    back e =
        let q : read_back 0 ds ≡ n = ap (read_back 0) e ∙ decimal-value n in
        passes (some (read_back 0 ds)) (eq-same _ _ (ap decimal q ∙ sym e)) (ap some q)

-- no byte but digits
pub decimal-lacks : (b n : ℕ) → is_digit b ≡ false → lacks b (decimal n) ≡ true
decimal-lacks b n h = all_in _ (decimal n) (λ x m. ap not (ne_eqb x b (λ e. clash (all-out is_digit m (decimal-digits n)) (ap is_digit e ∙ h))))

-- ---- names

name_out : (w : List ℕ) (a : Name) → name_in w ≡ some a → w ≡ name_word a
unfolding name_in name_word
name_out [] a e = let z : ◌≡◌ {A = ℕ} 0 1 = cc in absurd (omega arith)
name_out (b ∷ ds) a e = go (eqb b 120) refl (eqb b 121) refl e
  where
    go : (x : Bool) → eqb b 120 ≡ x → (y : Bool) → eqb b 121 ≡ y
        → cond x (and_then (number_in ds) (λ v. some (variable v))) (cond y (and_then (number_in ds) (λ j. some (output j))) none) ≡ some a → b ∷ ds ≡ name_word a
    go true p y q e =
        let r = then-out (number_in ds) (λ v. some (variable v)) a e in
        let n : variable r.0 ≡ a = cc r.2 in
        ap₂ ◌∷◌ (eqb-true b 120 p) ((number-iff ds r.0).0 r.1) ∙ ap name_word n
    go false p true q e =
        let r = then-out (number_in ds) (λ j. some (output j)) a e in
        let n : output r.0 ≡ a = cc r.2 in
        ap₂ ◌∷◌ (eqb-true b 121 q) ((number-iff ds r.0).0 r.1) ∙ ap name_word n
    go false p false q e = let z : ◌≡◌ {A = ℕ} 0 1 = cc in absurd (omega arith)

pub name_in_lem : (a : Name) → name_in (name_word a) ≡ some a
unfolding name_in name_word
name_in_lem (variable v) = then-in (number_in (decimal v)) (λ v. some (variable v)) ((number-iff (decimal v) v).1 refl) refl
name_in_lem (output j) = then-in (number_in (decimal j)) (λ j. some (output j)) ((number-iff (decimal j) j).1 refl) refl

pub name-iff : (w : List ℕ) (a : Name) → (name_in w ≡ some a) ↔ (w ≡ name_word a)
name-iff w a = (name_out w a, λ e. ap name_in e ∙ name_in_lem a)

-- a word is no two names
pub name-one : (a b : Name) → name_word a ≡ name_word b → a ≡ b
name-one a b e = let z : some a ≡ some b = sym (name_in_lem a) ∙ ap name_in e ∙ name_in_lem b in cc

-- no byte but the letter and digits
pub name-lacks : (b : ℕ) (a : Name) → is_digit b ≡ false → eqb 120 b ≡ false → eqb 121 b ≡ false → lacks b (name_word a) ≡ true
unfolding name_word
name-lacks b (variable v) h p q = rw p (decimal-lacks b v h)
name-lacks b (output j) h p q = rw q (decimal-lacks b j h)

pub name-clear : (a : Name) → is_clear (name_word a) ≡ true
name-clear a = clear_in (name_word a) (name-lacks 32 a refl refl refl) (name-lacks 10 a refl refl refl)

pub text-clear : (b n : ℕ) → is_clear (b ∷ []) ≡ true → is_clear (name_text b n) ≡ true
text-clear b n h =
    together (not (eqb b 32) && not (eqb b 10)) (is_clear (decimal n)) (both (not (eqb b 32) && not (eqb b 10)) true h).0
    (clear_in (decimal n) (decimal-lacks 32 n refl) (decimal-lacks 10 n refl))

-- ---- names in turn

turn-out : (b k : ℕ) (ws : List (List ℕ)) → in_turn b k ws ≡ true → ws ≡ map (name_text b) (from k (length ws))
unfolding in_turn from
turn-out b k [] h = refl
turn-out b k (w ∷ ws) h = let r = both (same w (name_text b k)) (in_turn b (suc k) ws) h in
    ap₂ ◌∷◌ (same-eq w (name_text b k) r.0) (turn-out b (suc k) ws r.1)

turn_in : (b k n : ℕ) → in_turn b k (map (name_text b) (from k n)) ≡ true
unfolding in_turn from
turn_in b k zero = refl
turn_in b k (suc n) = together _ _ (same_self (name_text b k)) (turn_in b (suc k) n)

pub names-length : (b n : ℕ) → length (first_names b n) ≡ n
names-length b n = length-map (from 0 n) (name_text b) ∙ from-length 0 n

-- the words are the first n names of the letter b
pub turn-iff : (b n : ℕ) (ws : List (List ℕ)) → ((in_turn b 0 ws ≡ true) × (length ws ≡ n)) ↔ (ws ≡ first_names b n)
turn-iff b n ws = (
  λ r. turn-out b 0 ws r.0 ∙ ap (first_names b) r.1,
  λ e. (ap (in_turn b 0) e ∙ turn_in b 0 n, ap length e ∙ names-length b n),
)

pub names-clear : (b n : ℕ) → is_clear (b ∷ []) ≡ true → all is_clear (first_names b n) ≡ true
names-clear b n h = all_in is_clear (first_names b n) (λ w m. let r = map-out (name_text b) (from 0 n) m in ap is_clear r.2 ∙ text-clear b r.0 h)

-- ---- the names of a block's line

-- what ascends: the variables that are read and, where a variable is defined, that one
abbrev upward : List ℕ → Name → List ℕ
upward vs (variable v) = vs ++ (v ∷ [])
upward vs (output j) = vs

upward-more : (v : ℕ) (vs : List ℕ) (a : Name) → upward (v ∷ vs) a ≡ v ∷ upward vs a
upward-more v vs (variable u) = refl
upward-more v vs (output j) = refl

-- the words are those of d, from k on
record NamesFrom (k : ℕ) (ws : List (List ℕ)) (d : Named) : Type 0 where
  words : ws ≡ map (name_text 120) d.reads ++ (name_word d.name ∷ [])
  ascend : asc (upward d.reads d.name) ≡ true
  least : all (leb k) (upward d.reads d.name) ≡ true

last_out : (k : ℕ) (w : List ℕ) (a : Name) (d : Named) → name_in w ≡ some a → last_name k a ≡ some d → NamesFrom k (w ∷ []) d
last_out k w (variable v) d q e =
    let r = passed (leb k v) (some (record { reads = []; name = variable v })) d e in
    let f : record { reads = []; name = variable v } ≡ d = cc r.1 in
    subst (NamesFrom k (w ∷ [])) f (record { words = ap (◌∷ []) ((name-iff w (variable v)).0 q); ascend = refl; least = together (leb k v) true r.0 refl })
last_out k w (output j) d q e =
    let f : record { reads = []; name = output j } ≡ d = cc in
    subst (NamesFrom k (w ∷ [])) f (record { words = ap (◌∷ []) ((name-iff w (output j)).0 q); ascend = refl; least = refl })

-- what is at least u is at least k
lower : (k u : ℕ) (vs : List ℕ) → k ≤ u → all (leb u) vs ≡ true → all (leb k) vs ≡ true
lower k u vs h a = all_in (leb k) vs (λ x m. le-leb k x (omega (arith, leb-true u x (all-out (leb u) m a))))

name-more : (k : ℕ) (w : List ℕ) (ws : List (List ℕ)) (a : Name) (d : Named) → name_in w ≡ some a → read_name k a (λ j. names_in j ws) ≡ some d
    → ((j : ℕ) (e : Named) → names_in j ws ≡ some e → NamesFrom j ws e) → NamesFrom k (w ∷ ws) d
unfolding name_word
name-more k w ws (output j) d q e f = let z : ◌≡◌ {A = ℕ} 0 1 = cc in absurd (omega arith)
name-more k w ws (variable v) d q e f =
    let r = passed (leb k v) (and_then (names_in (suc v) ws) (λ g. some (read_more v g))) d e in
    let s = then-out (names_in (suc v) ws) (λ g. some (read_more v g)) d r.1 in
    let g = s.0 in
    let i = f (suc v) g s.1 in
    let p : read_more v g ≡ d = cc s.2 in
    subst (NamesFrom k (w ∷ ws)) p (record {
      words = ap₂ ◌∷◌ ((name-iff w (variable v)).0 q) i.words;
      ascend = rw (upward-more v g.reads g.name) (together (all (leb (suc v)) (upward g.reads g.name)) _ i.least i.ascend);
      least = rw (upward-more v g.reads g.name)
          (together (leb k v) _ r.0 (lower k (suc v) (upward g.reads g.name) (omega (arith, leb-true k v r.0)) i.least));
    })

names-out : (k : ℕ) (ws : List (List ℕ)) (d : Named) → names_in k ws ≡ some d → NamesFrom k ws d
unfolding names_in
names-out k [] d e = let z : ◌≡◌ {A = ℕ} 0 1 = cc in absurd (omega arith)
names-out k (w ∷ []) d e = let r = then-out (name_in w) (last_name k) d e in last_out k w r.0 d r.1 r.2
names-out k (w ∷ u ∷ ws) d e =
    let r = then-out (name_in w) (λ a. read_name k a (λ j. names_in j (u ∷ ws))) d e in
    name-more k w (u ∷ ws) r.0 d r.1 r.2 (λ j g q. names-out j (u ∷ ws) g q)

names-first : (k : ℕ) (w : List ℕ) (ws : List (List ℕ)) (x : List ℕ)
    → names_in k (w ∷ (ws ++ (x ∷ []))) ≡ and_then (name_in w) (λ a. read_name k a (λ j. names_in j (ws ++ (x ∷ []))))
unfolding names_in
names-first k w [] x = refl
names-first k w (u ∷ ws) x = refl

last-in : (k : ℕ) (a : Name) → all (leb k) (upward [] a) ≡ true → last_name k a ≡ some (record { reads = []; name = a })
last-in k (variable v) h = rw (both (leb k v) true h).0
last-in k (output j) h = refl

names_in_lem : (k : ℕ) (vs : List ℕ) (a : Name) → asc (upward vs a) ≡ true → all (leb k) (upward vs a) ≡ true
    → names_in k (map (name_text 120) vs ++ (name_word a ∷ [])) ≡ some (record { reads = vs; name = a })
unfolding names_in name_word
names_in_lem k [] a h l = then-in (name_in (name_word a)) (last_name k) (name_in_lem a) (last-in k a l)
names_in_lem k (v ∷ vs) a h l =
    let p = both (all (leb (suc v)) (upward vs a)) (asc (upward vs a)) (ap asc (sym (upward-more v vs a)) ∙ h) in
    let q = both (leb k v) (all (leb k) (upward vs a)) (ap (all (leb k)) (sym (upward-more v vs a)) ∙ l) in
    let ws = map (name_text 120) vs in
    names-first k (name_text 120 v) ws (name_word a)
    ∙ then-in (name_in (name_text 120 v)) (λ b. read_name k b (λ j. names_in j (ws ++ (name_word a ∷ [])))) (name_in_lem (variable v))
    (passes (and_then (names_in (suc v) (ws ++ (name_word a ∷ []))) (λ g. some (read_more v g))) q.0
    (then-in (names_in (suc v) (ws ++ (name_word a ∷ []))) (λ g. some (read_more v g)) (names_in_lem (suc v) vs a p.1 p.0) refl))

upward-out : (vs : List ℕ) (a : Name) → asc (upward vs a) ≡ true → (asc vs ≡ true) × ((v : ℕ) → a ≡ variable v → all (λ u. ltb u v) vs ≡ true)
upward-out [] a h = (refl, λ v e. refl)
upward-out (u ∷ vs) a h =
    let p = both (all (ltb u) (upward vs a)) (asc (upward vs a)) (ap asc (sym (upward-more u vs a)) ∙ h) in
    let r = upward-out vs a p.1 in
    (together _ _ (within a p.0) r.0, λ v e. together _ _ (under v (subst (λ x. all (ltb u) (upward vs x) ≡ true) e p.0)) (r.1 v e))
  where
    within : (b : Name) → all (ltb u) (upward vs b) ≡ true → all (ltb u) vs ≡ true
    within (variable v) k = (both (all (ltb u) vs) _ (sym (all_append (ltb u) vs (v ∷ [])) ∙ k)).0
    within (output j) k = k

    under : (v : ℕ) → all (ltb u) (vs ++ (v ∷ [])) ≡ true → ltb u v ≡ true
    under v k = all-out (ltb u) (Memᴰ.append_right vs (here refl)) k

upward-in : (vs : List ℕ) (a : Name) → asc vs ≡ true → ((v : ℕ) → a ≡ variable v → all (λ u. ltb u v) vs ≡ true) → asc (upward vs a) ≡ true
upward-in vs (output j) h f = h
upward-in vs (variable v) h f = pairwise_append ltb vs (v ∷ []) h refl
    (λ x y m i. subst (λ z. ltb x z ≡ true) (sym (Memᴰ.eq_of_singleton i)) (all-out (λ u. ltb u v) m (f v refl)))

pub names-iff : (ws : List (List ℕ)) (d : Named) → (names_in 0 ws ≡ some d) ↔ NamesLine ws d
names-iff ws d = (into, back)
  where
    into : names_in 0 ws ≡ some d → NamesLine ws d
    into e = let r = names-out 0 ws d e in let q = upward-out d.reads d.name r.ascend in record { words = r.words; ascend = q.0; below = q.1 }

    back : NamesLine ws d → names_in 0 ws ≡ some d
    back r = ap (names_in 0) r.words ∙ names_in_lem 0 d.reads d.name (upward-in d.reads d.name r.ascend r.below)
        (all_in (leb 0) (upward d.reads d.name) (λ x m. le-leb 0 x (omega arith)))
