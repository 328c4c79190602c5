-- What is read as a model is written for it, and what is written for a formed model is read as it, part by part. Assumes nothing.
use Prim.Native.Nat.{ℕ}
use mathlib.Core.Path.{◌≡◌, refl, sym, ap, ap₂, ◌∙◌, subst}
use mathlib.Core.Logic.{◌⊎◌, inl, inr, ◌↔◌}
use mathlib.Core.Bool.{true, cond, not, ◌&&◌}
use mathlib.Core.List.Memᴰ
use mathlib.Core.List.Memᴰ.{head as here}
use mathlib.Core.List.Memᴰ.{tail as there}
use mathlib.Core.List.{List, [], ◌∷◌, ◌++◌, map, append-nil, append_assoc}
use mathlib.Core.Option.{Option, none, some}
use native.Mathlib.Omega.{arith}
use lib.ListN.{length}
use Rattle.sets.{specs.Lists.all, specs.Lists.is_nil, specs.Sets.same, proofs.Sets.same-eq, proofs.Sets.same_self}
use Rattle.sets.proofs.Truth.{both, together, clash}
use Rattle.sets.proofs.Lists.{◌∈◌, all_in, all_append, map-out}
use Rattle.letters_products.specs.Spelled.{spelled}
use Rattle.table_lines.specs.Meaning.{lacks}
use Rattle.network.specs.Handed.{flat}
use Rattle.blif_laws.specs.Text.{spaced, first_names, Block, block_lines, Model, head_lines, model_lines, model_text}
use Rattle.blif_laws.specs.Reading.{and_then, lines_in, words_in, Part, parts_of, in_turn, after, block_in, closed, blocks_in, is_model_name, is_model, list_in}
use Rattle.blif_laws.specs.Reading.{pointed, Parted, model_parts, model_in}
use Rattle.blif_laws.specs.Meaning.{is_clear, Titled, FormedBlock, Formed, InForm}
use Rattle.blif_laws.proofs.Cutting.{lines-ended, lines-short, lines-lack, ended-lines, short-lines, words-spaced, words-lack, spaced-words}
use Rattle.blif_laws.proofs.Cutting.{clear_in, clear-out, clear-words, clear-line, lacks-spaced}
use Rattle.blif_laws.proofs.Naming.{then-out, then-in, passed, passes, turn-iff, names-clear}
use Rattle.blif_laws.proofs.Parting.{part_lines, parts_out, is_part, parts_in}
use Rattle.blif_laws.proofs.Blocking.{block_part, block-lines, block-part, after-in, after-out, block_in_lem, block_out, block-lack}

-- ---- blocks and `.end`

abbrev end_part : List (List ℕ) → Part
end_part r = record { head = spelled ".end"; rows = r }

blocks-first : (m : ℕ) (p : Part) (ps : List Part) (e : Part)
    → blocks_in m (p ∷ (ps ++ (e ∷ []))) ≡ and_then (block_in m p) (λ b. and_then (blocks_in m (ps ++ (e ∷ []))) (λ bs. some (b ∷ bs)))
unfolding blocks_in
blocks-first m p [] e = refl
blocks-first m p (q ∷ ps) e = refl

blocks-in : (m : ℕ) (r : List (List ℕ)) (bs : List Block) → closed r ≡ true → ((b : Block) → b ∈ bs → FormedBlock m b)
    → blocks_in m (map block_part bs ++ (end_part r ∷ [])) ≡ some bs
unfolding blocks_in
blocks-in m r [] h f = passes (some []) (together (same (spelled ".end") (spelled ".end")) (closed r) (same_self (spelled ".end")) h) refl
blocks-in m r (b ∷ bs) h f =
    let ps = map block_part bs in
    blocks-first m (block_part b) ps (end_part r)
    ∙ then-in (block_in m (block_part b)) _ (block_in_lem m b (f b (here refl)))
    (then-in (blocks_in m (ps ++ (end_part r ∷ []))) _ (blocks-in m r bs h (λ c i. f c (there i))) refl)

record Ends (m : ℕ) (ps : List Part) (bs : List Block) : Type 0 where
  rest : List (List ℕ)
  closes : closed rest ≡ true
  parts : ps ≡ map block_part bs ++ (end_part rest ∷ [])
  formed : (b : Block) → b ∈ bs → FormedBlock m b

blocks-out : (m : ℕ) (ps : List Part) (bs : List Block) → blocks_in m ps ≡ some bs → Ends m ps bs
unfolding blocks_in
blocks-out m [] bs e = let z : ◌≡◌ {A = ℕ} 0 1 = cc in absurd (omega arith)
blocks-out m (p ∷ []) bs e =
    let r = passed (same p.head (spelled ".end") && closed p.rows) (some []) bs e in
    let s = both (same p.head (spelled ".end")) (closed p.rows) r.0 in
    let f : [] ≡ bs = cc r.1 in
    subst (Ends m (p ∷ [])) f (record {
      rest = p.rows;
      closes = s.1;
      parts = ap (λ h. record { head = h; rows = p.rows } ∷ []) (same-eq p.head (spelled ".end") s.0);
      formed = λ b i. absurd (Memᴰ.not-nil i);
    })
blocks-out m (p ∷ q ∷ ps) bs e =
    let r = then-out (block_in m p) (λ b. and_then (blocks_in m (q ∷ ps)) (λ bs. some (b ∷ bs))) bs e in
    let s = then-out (blocks_in m (q ∷ ps)) (λ bs. some (r.0 ∷ bs)) bs r.2 in
    let f : r.0 ∷ s.0 ≡ bs = cc s.2 in
    let t = block_out m p r.0 r.1 in
    let i = blocks-out m (q ∷ ps) s.0 s.1 in
    subst (Ends m (p ∷ q ∷ ps)) f (record {
      rest = i.rest;
      closes = i.closes;
      parts = ap₂ ◌∷◌ t.0 i.parts;
      formed = λ b j. elim (Memᴰ.cases_cons j) [ inl w ↦ subst (FormedBlock m) (sym w) t.1 | inr k ↦ i.formed b k ];
    })

-- ---- lines of one part each

abbrev alone : List ℕ → Part
alone l = record { head = l; rows = [] }

nil-out : {A : Type 0} (l : List A) → is_nil l ≡ true → l ≡ []
nil-out [] h = refl
nil-out (x ∷ l) h = clash h refl

alone-out : (p : Part) (l : List ℕ) → p.head ≡ l → is_nil p.rows ≡ true → p ≡ alone l
alone-out p l e h = ap₂ (λ (x : List ℕ) (r : List (List ℕ)). record { head = x; rows = r }) e (nil-out p.rows h)

-- `.inputs` or `.outputs`
module _ (k : List ℕ) (b : ℕ) where
  list-in : (n : ℕ) → all is_clear (k ∷ first_names b n) ≡ true → list_in k b (alone (spaced (k ∷ first_names b n))) ≡ some n
  unfolding list_in
  list-in n h =
      let ws = first_names b n in
      let t = (turn-iff b n ws).1 refl in
      then-in (after k (words_in (spaced (k ∷ ws)))) _ (ap (after k) (words-spaced k ws (clear-words (k ∷ ws) h)) ∙ after-in k ws)
      (passes (some (length ws)) t.0 (ap some t.1))

  list-out : (p : Part) (n : ℕ) → list_in k b p ≡ some n → p ≡ alone (spaced (k ∷ first_names b n))
  unfolding list_in
  list-out p n e =
      let r = then-out (after k (words_in p.head)) (λ ws. cond (is_nil p.rows && in_turn b 0 ws) (some (length ws)) none) n e in
      let s = passed (is_nil p.rows && in_turn b 0 r.0) (some (length r.0)) n r.2 in
      let t = both (is_nil p.rows) (in_turn b 0 r.0) s.0 in
      let q : length r.0 ≡ n = cc s.1 in
      alone-out p (spaced (k ∷ first_names b n))
      (sym (spaced-words p.head) ∙ ap spaced (after-out k (words_in p.head) r.0 r.1 ∙ ap (k ∷◌) ((turn-iff b n r.0).0 (t.1, q)))) t.0

-- `.model`
model-word : (ws : List (List ℕ)) → is_model ws ≡ true → (w : List ℕ) × (ws ≡ spelled ".model" ∷ w ∷ []) × (is_model_name w ≡ true)
unfolding is_model
model-word [] h = clash h refl
model-word (k ∷ []) h = clash h refl
model-word (k ∷ w ∷ []) h =
    let r = both (same k (spelled ".model")) (is_model_name w) h in (w, ap (λ (x : List ℕ). x ∷ w ∷ []) (same-eq k (spelled ".model") r.0), r.1)
model-word (k ∷ w ∷ u ∷ ws) h = clash h refl

word-model : (w : List ℕ) → is_model_name w ≡ true → is_model (spelled ".model" ∷ w ∷ []) ≡ true
unfolding is_model
word-model w h = together (same (spelled ".model") (spelled ".model")) (is_model_name w) (same_self (spelled ".model")) h

-- ---- the parts of a model

module _ (name : List ℕ) (d : Model) (r : List (List ℕ)) where
  abbrev parts_for : List Part
  parts_for =
      alone (spaced (spelled ".model" ∷ name ∷ []))
      ∷ alone (spaced (spelled ".inputs" ∷ first_names 120 d.inputs))
      ∷ alone (spaced (spelled ".outputs" ∷ first_names 121 d.outputs))
      ∷ (map block_part d.blocks ++ (end_part r ∷ []))

  model_in_lem : Titled name → closed r ≡ true → Formed d → model_parts parts_for ≡ some d
  unfolding model_parts spelled
  model_in_lem g h f =
      passes _ (together _ true (ap is_model (words-spaced (spelled ".model") (name ∷ [])
      (together (lacks 32 name) true (clear-out name g.clear).0 refl)) ∙ word-model name g.good) refl)
      (then-in (list_in (spelled ".inputs") 120 _) _ (list-in (spelled ".inputs") 120 d.inputs (names-clear 120 d.inputs refl))
      (then-in (list_in (spelled ".outputs") 121 _) _ (list-in (spelled ".outputs") 121 d.outputs (names-clear 121 d.outputs refl))
      (then-in (blocks_in d.outputs (map block_part d.blocks ++ (end_part r ∷ []))) _ (blocks-in d.outputs r d.blocks h f) refl)))

  -- their lines
  blocks-lines : (bs : List Block) → part_lines (map block_part bs ++ (end_part r ∷ [])) ≡ (flat (map block_lines bs) ++ (spelled ".end" ∷ [])) ++ r
  blocks-lines [] = ap (spelled ".end" ∷◌) (append-nil r)
  blocks-lines (b ∷ bs) =
      ap₂ ◌++◌ (sym (block-lines b)) (blocks-lines bs)
      ∙ sym (append_assoc (block_lines b) (flat (map block_lines bs) ++ (spelled ".end" ∷ [])) r)
      ∙ ap (◌++ r) (sym (append_assoc (block_lines b) (flat (map block_lines bs)) (spelled ".end" ∷ [])))

  parts-lines : part_lines parts_for ≡ model_lines name d ++ r
  unfolding model_lines head_lines
  parts-lines = ap (head_lines name d.inputs d.outputs ++◌) (blocks-lines d.blocks)

  -- they are parts
  end-part : closed r ≡ true → is_part (end_part r) ≡ true
  unfolding spelled
  end-part h = plain r h
    where
      plain : (l : List (List ℕ)) → closed l ≡ true → all (λ x. not (pointed x)) l ≡ true
      plain [] k = refl
      plain (x ∷ []) k = rw (nil-out x k)
      plain (x ∷ y ∷ l) k = clash k refl

  model-parts : closed r ≡ true → all is_part parts_for ≡ true
  unfolding spelled spaced
  model-parts h = all_append is_part (map block_part d.blocks) (end_part r ∷ [])
      ∙ together (all is_part (map block_part d.blocks)) (is_part (end_part r) && true)
      (all_in is_part (map block_part d.blocks) (λ p m. let w = map-out block_part d.blocks m in ap is_part w.2 ∙ block-part w.0))
      (together (is_part (end_part r)) true (end-part h) refl)

  -- so lines that are written for a formed model are read as it
  lines-model : (t : List ℕ) → Titled name → closed r ≡ true → Formed d → lines_in t ≡ model_lines name d ++ r → model_in t ≡ some d
  unfolding model_in
  lines-model t g h f e =
      let p : parts_of (lines_in t) ≡ record { ahead = []; parts = parts_for } = ap parts_of (e ∙ sym parts-lines) ∙ parts_in parts_for (model-parts h) in
      ap (λ (q : Parted). cond (is_nil q.ahead) (model_parts q.parts) none) p ∙ model_in_lem g h f

-- no line has LF
model-lack : (name : List ℕ) (d : Model) → is_clear name ≡ true → all (lacks 10) (model_lines name d) ≡ true
unfolding model_lines head_lines spelled
model-lack name d h =
    together (lacks 10 (spaced (spelled ".model" ∷ name ∷ []))) _ (clear-line (spelled ".model" ∷ name ∷ []) (together (is_clear name) true h refl))
    (together (lacks 10 (spaced (spelled ".inputs" ∷ first_names 120 d.inputs))) _
    (clear-line (spelled ".inputs" ∷ first_names 120 d.inputs) (names-clear 120 d.inputs refl))
    (together (lacks 10 (spaced (spelled ".outputs" ∷ first_names 121 d.outputs))) _
    (clear-line (spelled ".outputs" ∷ first_names 121 d.outputs) (names-clear 121 d.outputs refl))
    (all_append (lacks 10) (flat (map block_lines d.blocks)) (spelled ".end" ∷ [])
    ∙ together (all (lacks 10) (flat (map block_lines d.blocks))) true (blocks-lack d.blocks) refl)))
  where
    blocks-lack : (bs : List Block) → all (lacks 10) (flat (map block_lines bs)) ≡ true
    blocks-lack [] = refl
    blocks-lack (b ∷ bs) = all_append (lacks 10) (block_lines b) (flat (map block_lines bs))
        ∙ together (all (lacks 10) (block_lines b)) _ (block-lack b) (blocks-lack bs)

-- ---- and back

record ModelRead (ps : List Part) (d : Model) : Type 0 where
  name : List ℕ
  good : is_model_name name ≡ true
  single : lacks 32 name ≡ true
  rest : List (List ℕ)
  closes : closed rest ≡ true
  parts : ps ≡ parts_for name d rest
  formed : Formed d

heads-out : (p q s : Part) (ps : List Part) (n m : ℕ) (bs : List Block) (d : Model) → record { inputs = n; outputs = m; blocks = bs } ≡ d
    → is_model (words_in p.head) ≡ true → is_nil p.rows ≡ true
    → list_in (spelled ".inputs") 120 q ≡ some n → list_in (spelled ".outputs") 121 s ≡ some m → blocks_in m ps ≡ some bs → ModelRead (p ∷ q ∷ s ∷ ps) d
heads-out p q s ps n m bs d f h l i o b =
    let w = model-word (words_in p.head) h in
    let k = blocks-out m ps bs b in
    subst (ModelRead (p ∷ q ∷ s ∷ ps)) f (record {
      name = w.0;
      good = w.2;
      single = (both (lacks 32 w.0) true (both (lacks 32 (spelled ".model")) _ (ap (all (lacks 32)) (sym w.1) ∙ words-lack p.head)).1).0;
      rest = k.rest;
      closes = k.closes;
      parts = ap₂ ◌∷◌ (alone-out p (spaced (spelled ".model" ∷ w.0 ∷ [])) (sym (spaced-words p.head) ∙ ap spaced w.1) l)
          (ap₂ ◌∷◌ (list-out (spelled ".inputs") 120 q n i) (ap₂ ◌∷◌ (list-out (spelled ".outputs") 121 s m o) k.parts));
      formed = k.formed;
    })

abbrev lasts : List Part → ℕ → ℕ → Option Model
lasts ps n m = and_then (blocks_in m ps) (λ bs. some (record { inputs = n; outputs = m; blocks = bs }))

model_out : (ps : List Part) (d : Model) → model_parts ps ≡ some d → ModelRead ps d
unfolding model_parts
model_out [] d e = let z : ◌≡◌ {A = ℕ} 0 1 = cc in absurd (omega arith)
model_out (p ∷ []) d e = let z : ◌≡◌ {A = ℕ} 0 1 = cc in absurd (omega arith)
model_out (p ∷ q ∷ []) d e = let z : ◌≡◌ {A = ℕ} 0 1 = cc in absurd (omega arith)
model_out (p ∷ q ∷ s ∷ ps) d e =
    let r = passed (is_model (words_in p.head) && is_nil p.rows)
    (and_then (list_in (spelled ".inputs") 120 q) (λ n. and_then (list_in (spelled ".outputs") 121 s) (λ m. lasts ps n m))) d e in
    let h = both (is_model (words_in p.head)) (is_nil p.rows) r.0 in
    let i = then-out (list_in (spelled ".inputs") 120 q) (λ n. and_then (list_in (spelled ".outputs") 121 s) (λ m. lasts ps n m)) d r.1 in
    let o = then-out (list_in (spelled ".outputs") 121 s) (λ m. lasts ps i.0 m) d i.2 in
    let b = then-out (blocks_in o.0 ps) (λ bs. some (record { inputs = i.0; outputs = o.0; blocks = bs })) d o.2 in
    let f : record { inputs = i.0; outputs = o.0; blocks = b.0 } ≡ d = cc b.2 in
    heads-out p q s ps i.0 o.0 b.0 d f h.0 h.1 i.1 o.1 b.1

-- the lines that are read
model-lines : (t : List ℕ) (d : Model) → model_in t ≡ some d → (h : ModelRead (parts_of (lines_in t)).parts d) × (lines_in t ≡ model_lines h.name d ++ h.rest)
unfolding model_in
model-lines t d e =
    let r = passed (is_nil (parts_of (lines_in t)).ahead) (model_parts (parts_of (lines_in t)).parts) d e in
    let h = model_out (parts_of (lines_in t)).parts d r.1 in
    (h, parts_out (lines_in t) ∙ ap₂ ◌++◌ (nil-out (parts_of (lines_in t)).ahead r.0) (ap part_lines h.parts) ∙ parts-lines h.name d h.rest)

-- the name has no LF, as the first line has none
name-lack : (t name : List ℕ) (d : Model) (r : List (List ℕ)) → lines_in t ≡ model_lines name d ++ r → lacks 10 name ≡ true
unfolding model_lines head_lines
name-lack t name d r e =
    let w = both (lacks 10 (spaced (spelled ".model" ∷ name ∷ []))) _ (ap (all (lacks 10)) (sym e) ∙ lines-lack t) in
    let k = sym (lacks-spaced (spelled ".model" ∷ name ∷ [])) ∙ w.0 in
    (both (lacks 10 name) true (both (lacks 10 (spelled ".model")) _ k).1).0

-- the last line is ended by LF, or not
rest-text : (t name : List ℕ) (d : Model) (r : List (List ℕ)) → closed r ≡ true → lines_in t ≡ model_lines name d ++ r
    → (t ≡ model_text name d) ⊎ (t ++ (10 ∷ []) ≡ model_text name d)
unfolding model_text
rest-text t name d [] h e = inr (short-lines t (model_lines name d) (e ∙ append-nil (model_lines name d)))
rest-text t name d (l ∷ []) h e = inl (ended-lines t (model_lines name d) (e ∙ ap (λ x. model_lines name d ++ (x ∷ [])) (nil-out l h)))
rest-text t name d (l ∷ k ∷ r) h e = clash h refl

form-out : (t : List ℕ) (d : Model) → model_in t ≡ some d → InForm t d
form-out t d e =
    let w = model-lines t d e in
    let h = w.0 in
    record {
      formed = h.formed;
      writes = record {
        name = h.name;
        titled = record { good = h.good; clear = clear_in h.name h.single (name-lack t h.name d h.rest w.1) };
        text = rest-text t h.name d h.rest h.closes w.1;
      };
    }

form_in : (t : List ℕ) (d : Model) → InForm t d → model_in t ≡ some d
unfolding model_text
form_in t d w = go w.writes.text
  where
    name : List ℕ
    name = w.writes.name

    lack : all (lacks 10) (model_lines name d) ≡ true
    lack = model-lack name d w.writes.titled.clear

    go : (t ≡ model_text name d) ⊎ (t ++ (10 ∷ []) ≡ model_text name d) → model_in t ≡ some d
    go (inl e) = lines-model name d ([] ∷ []) t w.writes.titled refl w.formed (ap lines_in e ∙ lines-ended (model_lines name d) lack)
    go (inr e) = lines-model name d [] t w.writes.titled refl w.formed
        (lines-short t (model_lines name d) lack e ∙ sym (append-nil (model_lines name d)))

-- a text is read as a model exactly where it is in the form of it
pub model-iff : (t : List ℕ) (d : Model) → (model_in t ≡ some d) ↔ InForm t d
model-iff t d = (form-out t d, form_in t d)

-- no text is in the form of two models
pub form-one : (t : List ℕ) (d e : Model) → InForm t d → InForm t e → d ≡ e
form-one t d e f g = let z : some d ≡ some e = sym (form_in t d f) ∙ form_in t e g in cc
