-- A whole text: its head is determined, with the blocks after it it is a text in the form, and a text of the form without a gap has none but small
-- variables, since each stands in it. Assumes nothing.
use Prim.Native.Nat.{ℕ, zero, suc, ◌+◌, ◌≤◌, max}
use mathlib.Core.Path.{◌≡◌, refl, sym, ap, ap₂, ◌∙◌, subst}
use mathlib.Core.Bool.{Bool, true, false, cond, ◌&&◌}
use mathlib.Core.List.Memᴰ
use mathlib.Core.List.{List, [], ◌∷◌, ◌++◌, map}
use native.Mathlib.Omega.{arith}
use lib.Dec.{eqb}
use lib.ListN.{length}
use Rattle.sets.{specs.Lists.from, specs.Word.largest, proofs.Truth.together, proofs.Truth.refuted, proofs.Sets.mem-of}
use Rattle.letters_products.specs.Spelled.{spelled}
use Rattle.network.specs.Handed.{flat}
use Rattle.blif_laws.specs.Text.{spaced, first_names, block_lines, head_lines, Model, model_lines, model_text}
use Rattle.blif_laws.specs.Reading.{words_in, joined, gapless}
use Rattle.blif_laws.specs.Meaning.{is_clear, InForm}
use Rattle.blif_laws.proofs.Cutting.{words-spaced, clear-words}
use Rattle.blif_laws.proofs.{Naming.names-clear, Naming.names-length, Forming.model-iff, Bounding.standing-below}
use Rattle.blif_scan.specs.{Scanning.left, Heading.Headed, Heading.model_line}
use Rattle.blif_scan.proofs.Heading.{line-one, inputs_line, outputs_line, head_apart, inputs-whole, outputs-whole, model-whole}
use Rattle.blif_lines.{specs.Lining.top_of, proofs.Lining.top-append}
use Rattle.blif_form.specs.Surveying.{BlocksOf, named_by, SmallBlocks, BlocksGot, BlocksNot, SurveyGot, SurveyNot}
use Rattle.blif_form.specs.declared.Blocks.{Blocks}
use Rattle.blif_form.proofs.Ending.{closes_in, closes-out}

-- ---- the head

-- a line of a keyword and names has one number of names
list-one : (k : List ℕ) (b n m : ℕ) → is_clear k ≡ true → is_clear (b ∷ []) ≡ true → spaced (k ∷ first_names b n) ≡ spaced (k ∷ first_names b m) → n ≡ m
list-one k b n m h i e =
    let w : k ∷ first_names b n ≡ k ∷ first_names b m = sym (back n) ∙ ap words_in e ∙ back m in
    let q = ap length w in
    omega (arith, names-length b n, names-length b m)
  where
    back : (x : ℕ) → words_in (spaced (k ∷ first_names b x)) ≡ k ∷ first_names b x
    back x = words-spaced k (first_names b x) (clear-words (k ∷ first_names b x) (together (is_clear k) _ h (names-clear b x i)))

pub head-one : {t r u : List ℕ} {n m k j : ℕ} → Headed t n m r → Headed t k j u → (n ≡ k) × (m ≡ j) × (r ≡ u)
unfolding spelled
head-one {r = r} {u} {n} {m} {k} {j} p q =
    let a = line-one (model_line p.name) (model_line q.name) _ _ (model-whole p.name p.titled) (model-whole q.name q.titled)
    (sym (p.text ∙ head_apart p.name n m r) ∙ q.text ∙ head_apart q.name k j u) in
    let b = line-one (inputs_line n) (inputs_line k) _ _ (inputs-whole n) (inputs-whole k) a.1 in
    let c = line-one (outputs_line m) (outputs_line j) r u (outputs-whole m) (outputs-whole j) b.1 in
    (list-one (spelled ".inputs") 120 n k refl refl b.0, list-one (spelled ".outputs") 121 m j refl refl c.0, c.1)

-- ---- the form

-- the head, and the blocks after it
pub form-head : {t : List ℕ} {d : Model} → InForm t d → (r : List ℕ) × Headed t d.inputs d.outputs r × BlocksOf r d.outputs d.blocks
unfolding model_text model_lines
form-head {t} {d} f =
    let w = f.writes in
    let c = closes-out t (head_lines w.name d.inputs d.outputs) (flat (map block_lines d.blocks)) (spelled ".end") w.text in
    (c.0, record { name = w.name; titled = w.titled; text = c.1 }, record { each = f.formed; text = c.2 })

pub head-form : {t r : List ℕ} {d : Model} → Headed t d.inputs d.outputs r → BlocksOf r d.outputs d.blocks → InForm t d
unfolding model_text model_lines
head-form {t} {r} {d} h b = record {
  formed = b.each;
  writes = record {
    name = h.name;
    titled = h.titled;
    text = closes_in t r (head_lines h.name d.inputs d.outputs) (flat (map block_lines d.blocks) ++ (spelled ".end" ∷ [])) h.text b.text;
  };
}

-- ---- the largest variable

top_from : (k n : ℕ) → top_of (from k (suc n)) ≡ k + suc n
unfolding from
top_from k zero = omega arith
top_from k (suc n) = let e = top_from (suc k) n in omega arith

top-first : (n : ℕ) → top_of (from 0 n) ≡ n
unfolding from
top-first zero = refl
top-first (suc n) = let e = top_from 0 n in omega arith

-- ---- what is found, and what is not

pub surveyed : {s : List ℕ} {n m p t : ℕ} {b : Blocks} → Headed (left s 0) n m (left s p) → n ≤ length s → m ≤ length s → BlocksGot s p m b
    → t ≡ max n b.top → SurveyGot s (record { inputs = n; outputs = m; rows = b.rows; top = t; first = p })
surveyed {s} {n} {m} {p} {t} {b} h i j g e = record {
  model = record { inputs = n; outputs = m; blocks = g.blocks };
  form = head-form h g.are;
  inputs = refl;
  outputs = refl;
  blocks = g.are;
  small = g.small;
  rows = g.rows;
  top = e ∙ ap₂ max (sym (top-first n)) g.top ∙ sym (top-append (from 0 n) (named_by g.blocks));
  fits = (i, j);
}

pub headless : {s : List ℕ} → ((n m : ℕ) (r : List ℕ) → Headed (left s 0) n m r → ⊥) → SurveyNot s
headless {s} h = record { none = λ d f. let r = form-head f in absurd (h d.inputs d.outputs r.0 r.1) }

joined-short : (t : List ℕ) → length (joined t) ≤ length t
unfolding joined
joined-short [] = omega arith
joined-short (b ∷ []) = omega arith
joined-short (b ∷ d ∷ t) = go (eqb b 92 && eqb d 10) (joined-short t) (joined-short (d ∷ t))
  where
    go : (x : Bool) → length (joined t) ≤ length t → length (joined (d ∷ t)) ≤ length (d ∷ t)
        → length (cond x (joined t) (b ∷ joined (d ∷ t))) ≤ length (b ∷ d ∷ t)
    go true h k = omega arith
    go false h k = omega arith

-- a variable of a text without a gap is small
small-blocks : (s : List ℕ) (d : Model) → length s ≤ largest → InForm (joined s) d → gapless d ≡ true → SmallBlocks d.blocks
small-blocks s d h f g v i =
    let k = standing-below (joined s) d v ((model-iff (joined s) d).1 f) g (mem-of (Memᴰ.append_right (from 0 d.inputs) i)) in
    omega (arith, joined-short s)

pub blockless : {s : List ℕ} {n m p : ℕ} → length s ≤ largest → Headed (left s 0) n m (left s p) → BlocksNot s p m → SurveyNot s
blockless {s} {n} {m} {p} h a b = record {
  none = λ d f. refuted (λ g.
      let r = form-head f in
      let o = head-one r.1 a in
      b.none d.blocks (small-blocks s d h f g)
      (subst (λ x. BlocksOf x m d.blocks) o.2 (subst (λ x. BlocksOf r.0 x d.blocks) o.1 r.2)));
}
