-- The lines before the blocks: names in turn, the name of a model, and three lines one after the other. Assumes nothing.
use Rattle.std.specs.Prelude.{Option, Some, None}
use Prim.Native.Nat.{ℕ, zero, suc, ◌+◌, ◌<◌, ◌≤◌}
use mathlib.Core.Path.{◌≡◌, refl, sym, ◌∙◌, ap}
use mathlib.Core.Bool.{Bool, true, false, not, ◌&&◌}
use mathlib.Core.List.{List, [], ◌∷◌, ◌++◌, map, map-append, append-nil, append_assoc, append_cancel_left}
use native.Mathlib.Omega.{arith}
use native.Mathlib.Numerals.{add-one}
use lib.Dec.{eqb}
use lib.ListN.{length, length-append}
use borrow.Author.Tests.{eq-eqb, not-true}
use Rattle.sets.{specs.Lists.all, specs.Lists.is_nil, specs.Lists.from, proofs.Truth.both, proofs.Truth.together, proofs.Truth.clash}
use Rattle.sets.proofs.{Lists.all_in, Lists.all-out, Lists.all_append, Rows.map-from, Rows.nil-some}
use Rattle.letters.specs.{Letters.name_text}
use Rattle.letters_products.specs.Spelled.{spelled}
use Rattle.blif_laws.{specs.Reading.cut_at, specs.Meaning.is_clear, proofs.Cutting.cut-more, proofs.Cutting.clear-line, proofs.Naming.names-clear}
use Rattle.network.{specs.Handed.flat, proofs.Handing.flat-last}
use Rattle.blif_laws.specs.Text.{spaced, ended, first_names, head_lines}
use Rattle.blif_scan.specs.Scanning.{left, NextIs, Starts, by_space, by_line, EndedIs}
use Rattle.blif_scan.specs.Heading.{led, TurnsAre, ListIs, is_plain, Titled, Lined, WordIs, model_line, ModelIs, Headed, HeadIs}
use Rattle.blif_scan.specs.declared.Ended.{Ended}
use Rattle.blif_scan.proofs.Scanning.{word-longer}

-- ---- words with a space before each

-- one word more
led-last : (ws : List (List ℕ)) (u : List ℕ) → led (ws ++ (u ∷ [])) ≡ led ws ++ (32 ∷ u)
led-last ws u = ap flat (map-append (λ (v : List ℕ). 32 ∷ v) ws (u ∷ [])) ∙ flat-last (map (λ (v : List ℕ). 32 ∷ v) ws) (32 ∷ u)

-- a word, more words and an LF: a space or the LF ends the first
line-starts : (t w : List ℕ) (ws : List (List ℕ)) (r : List ℕ) → t ≡ w ++ (led ws ++ (10 ∷ r)) → Starts t w
line-starts t w [] r e = by_line r e
line-starts t w (u ∷ ws) r e = by_space ((u ++ led ws) ++ (10 ∷ r)) e

-- and the text does not end with it
line-more : (w : List ℕ) (ws : List (List ℕ)) (r : List ℕ) → w ≡ w ++ (led ws ++ (10 ∷ r)) → ⊥
line-more w [] r e = word-longer w 10 r e
line-more w (u ∷ ws) r e = word-longer w 32 ((u ++ led ws) ++ (10 ∷ r)) e

-- ---- names in turn

-- the first k names and spaces are read; where the line goes on to its LF, it goes on from here
pub record Turned (b : ℕ) (s : List ℕ) (at k p : ℕ) : Type 0 where
  pub on : at ≤ p
  pub few : k ≤ p
  pub text : 32 ∷ left s at ≡ led (first_names b k) ++ (32 ∷ left s p)
  pub back : (j : ℕ) (r : List ℕ) → 32 ∷ left s at ≡ led (first_names b j) ++ (10 ∷ r)
      → (i : ℕ) × (32 ∷ left s p ≡ led (map (name_text b) (from k i)) ++ (10 ∷ r))

pub turn-none : (b : ℕ) (s : List ℕ) (at : ℕ) → Turned b s at 0 at
unfolding from
turn-none b s at = record { on = omega arith; few = omega arith; text = refl; back = λ j r e. (j, e) }

module _ (b : ℕ) (s : List ℕ) (at k p : ℕ) (turned : Turned b s at k p) where
  -- the name k stands here, and more names in turn
  here : (j : ℕ) (r : List ℕ) → 32 ∷ left s at ≡ led (first_names b j) ++ (10 ∷ r)
      → (i : ℕ) × (left s p ≡ name_text b k ++ (led (map (name_text b) (from (k + 1) i)) ++ (10 ∷ r)))
  unfolding from
  here j r e = let h = turned.back j r e in go h.0 h.1
    where
      go : (i : ℕ) → 32 ∷ left s p ≡ led (map (name_text b) (from k i)) ++ (10 ∷ r)
          → (i : ℕ) × (left s p ≡ name_text b k ++ (led (map (name_text b) (from (k + 1) i)) ++ (10 ∷ r)))
      go zero f = let z : ◌≡◌ {A = ℕ} 32 10 = cc in absurd (omega arith)
      go (suc i) f =
          let m = led (map (name_text b) (from (suc k) i)) in
          let g : left s p ≡ (name_text b k ++ m) ++ (10 ∷ r) = cc in
          (i, rw add-one (g ∙ append_assoc (name_text b k) m (10 ∷ r)))

  -- a name more
  more : (c : ℕ) (q : ℕ) → left s p ≡ name_text b k ++ (c ∷ left s q) → 32 ∷ left s at ≡ led (first_names b (k + 1)) ++ (c ∷ left s q)
  more c q e =
      turned.text ∙ ap (λ (t : List ℕ). led (first_names b k) ++ (32 ∷ t)) e
      ∙ sym (append_assoc (led (first_names b k)) (32 ∷ name_text b k) (c ∷ left s q))
      ∙ ap (◌++ (c ∷ left s q)) (sym (led-last (first_names b k) (name_text b k)) ∙ ap led (sym (map-from (name_text b) k)))

  pub turn-next : (q : ℕ) → EndedIs s p (name_text b k) (Some (Ended.Space q)) → Turned b s at (k + 1) q
  turn-next q h = record {
    on = omega (arith, turned.on, h.1.on);
    few = omega (arith, turned.few, h.1.on);
    text = more 32 q h.0;
    back = λ j r e.
        let f = here j r e in
        (f.0, append_cancel_left (name_text b k) (32 ∷ left s q) (led (map (name_text b) (from (k + 1) f.0)) ++ (10 ∷ r)) (sym h.0 ∙ f.1));
  }

  pub turn_last : (q : ℕ) → EndedIs s p (name_text b k) (Some (Ended.Line q)) → TurnsAre b s at (Some (k + 1, q))
  turn_last q h = (
    more 10 q h.0,
    record { on = omega (arith, turned.on, h.1.on); within = h.1.within },
    omega (arith, turned.few, h.1.on, h.1.within),
  )

  pub turn-cut : EndedIs s p (name_text b k) (Some Ended.Finish) → TurnsAre b s at None
  turn-cut h = λ j r e.
      let f = here j r e in
      line-more (name_text b k) (map (name_text b) (from (k + 1) f.0)) r (sym h ∙ f.1)

  pub turn-other : EndedIs s p (name_text b k) None → TurnsAre b s at None
  turn-other h = λ j r e. let f = here j r e in h (line-starts (left s p) (name_text b k) (map (name_text b) (from (k + 1) f.0)) r f.1)

-- ---- a keyword and names

-- the words of a line, the first of them apart
apart : (w : List ℕ) (ws : List (List ℕ)) (t : List ℕ) → spaced (w ∷ ws) ++ t ≡ w ++ (led ws ++ t)
unfolding spaced
apart w ws t = append_assoc w (led ws) t

module _ (w : List ℕ) (b : ℕ) (s : List ℕ) (at : ℕ) where
  pub list-names : (p : ℕ) (r : Option (ℕ × ℕ)) → EndedIs s at w (Some (Ended.Space p)) → TurnsAre b s p r → ListIs w b s at r
  list-names p (Some (k, q)) h g = (
    h.0 ∙ ap (w ++◌) g.0 ∙ sym (apart w (first_names b k) (10 ∷ left s q)),
    record { on = omega (arith, h.1.on, g.1.on); within = g.1.within },
    g.2,
  )
  list-names p None h g = λ k r e.
      g k r (append_cancel_left w (32 ∷ left s p) (led (first_names b k) ++ (10 ∷ r)) (sym h.0 ∙ e ∙ apart w (first_names b k) (10 ∷ r)))

  pub list-none : (p : ℕ) → EndedIs s at w (Some (Ended.Line p)) → ListIs w b s at (Some (0, p))
  unfolding from
  list-none p h = (h.0 ∙ sym (apart w [] (10 ∷ left s p)), h.1, omega arith)

  pub list-cut : EndedIs s at w (Some Ended.Finish) → ListIs w b s at None
  list-cut h = λ k r e. line-more w (first_names b k) r (sym h ∙ e ∙ apart w (first_names b k) (10 ∷ r))

  pub list-other : EndedIs s at w None → ListIs w b s at None
  list-other h = λ k r e. h (line-starts (left s at) w (first_names b k) r (e ∙ apart w (first_names b k) (10 ∷ r)))

-- ---- lines

-- no LF is in it
abbrev whole : List ℕ → Bool
whole l = all (λ b. not (eqb b 10)) l

no_line : (b : ℕ) → not (eqb b 10) ≡ true → b ≡ 10 → ⊥
no_line b h e = clash (eq-eqb b 10 e) (not-true (eqb b 10) h)

-- what no LF is in is a part of the line
line-past : (u : List ℕ) {t w r : List ℕ} → whole u ≡ true → u ++ t ≡ w ++ (10 ∷ r) → (v : List ℕ) × (w ≡ u ++ v) × (t ≡ v ++ (10 ∷ r))
line-past [] {w = w} h e = (w, refl, e)
line-past (b ∷ u) {t} {w = []} {r} h e = let f : b ≡ 10 = cc in absurd (no_line b (both (not (eqb b 10)) (whole u) h).0 f)
line-past (b ∷ u) {t} {w = c ∷ w} {r} h e =
    let f : c ≡ b = cc in
    let g : u ++ t ≡ w ++ (10 ∷ r) = cc in
    let m = line-past u (both (not (eqb b 10)) (whole u) h).1 g in
    (m.0, ap (◌∷ w) f ∙ ap (b ∷◌) m.1, m.2)

-- a text has one first line
pub line-one : (l k t u : List ℕ) → whole l ≡ true → whole k ≡ true → l ++ (10 ∷ t) ≡ k ++ (10 ∷ u) → (l ≡ k) × (t ≡ u)
line-one l k t u h i e =
    let c : l ∷ cut_at 10 t ≡ k ∷ cut_at 10 u = sym (cut-more 10 l t h) ∙ ap (cut_at 10) e ∙ cut-more 10 k u i in
    let p : l ≡ k = cc in
    let q : 10 ∷ t ≡ 10 ∷ u = append_cancel_left k (10 ∷ t) (10 ∷ u) (ap (◌++ (10 ∷ t)) (sym p) ∙ e) in
    (p, cc)

-- ---- the name of a model

-- a byte of it
plain_in : (b : ℕ) → (not (eqb b 9) && not (eqb b 13)) ≡ true → (not (eqb b 32) && not (eqb b 10)) ≡ true → is_plain b ≡ true
plain_in b h k =
    let f = both (not (eqb b 9)) (not (eqb b 13)) h in
    let g = both (not (eqb b 32)) (not (eqb b 10)) k in
    rw (f.0, f.1, g.0, g.1)

plain_out : (b : ℕ) → is_plain b ≡ true → ((not (eqb b 9) && not (eqb b 13)) ≡ true) × ((not (eqb b 32) && not (eqb b 10)) ≡ true)
plain_out b h =
    let f = both (not (eqb b 32)) (not (eqb b 9) && (not (eqb b 13) && not (eqb b 10))) h in
    let g = both (not (eqb b 9)) (not (eqb b 13) && not (eqb b 10)) f.1 in
    let k = both (not (eqb b 13)) (not (eqb b 10)) g.1 in
    (together (not (eqb b 9)) (not (eqb b 13)) g.0 k.0, together (not (eqb b 32)) (not (eqb b 10)) f.0 k.1)

titled-in : (w : List ℕ) → is_nil w ≡ false → all is_plain w ≡ true → Titled w
titled-in w h k = record {
  good = rw h (all_in _ w (λ b m. (plain_out b (all-out is_plain m k)).0));
  clear = all_in _ w (λ b m. (plain_out b (all-out is_plain m k)).1);
}

titled-plain : {w : List ℕ} → Titled w → all is_plain w ≡ true
titled-plain {w} h = all_in is_plain w (λ b m.
    plain_in b (all-out (λ (x : ℕ). not (eqb x 9) && not (eqb x 13)) m (both (not (is_nil w)) _ h.good).1)
    (all-out (λ (x : ℕ). not (eqb x 32) && not (eqb x 10)) m h.clear))

titled-some : {w : List ℕ} → Titled w → w ≡ [] → ⊥
titled-some {w} h e = clash (ap is_nil e) (not-true (is_nil w) (both (not (is_nil w)) _ h.good).0)

plain-whole : (w : List ℕ) → all is_plain w ≡ true → whole w ≡ true
plain-whole w h = all_in _ w (λ b m. (both (not (eqb b 32)) (not (eqb b 10)) (plain_out b (all-out is_plain m h)).1).1)

-- a part of it was read
pub record Passed (s : List ℕ) (at p : ℕ) : Type 0 where
  pub word : List ℕ
  pub text : left s at ≡ word ++ left s p
  pub plain : all is_plain word ≡ true
  pub on : at ≤ p
  pub some : at < p → is_nil word ≡ false
  pub none : p ≤ at → word ≡ []

pub pass-none : (s : List ℕ) (at : ℕ) → Passed s at at
pass-none s at = record { word = []; text = refl; plain = refl; on = omega arith; some = λ h. absurd (omega arith); none = λ h. refl }

module _ (s : List ℕ) (at p : ℕ) (passed : Passed s at p) where
  -- the rest of a name and its LF
  rest : (r : List ℕ) → Lined (λ w. w) (left s at) r
      → (v : List ℕ) × (all is_plain v ≡ true) × (left s p ≡ v ++ (10 ∷ r)) × (passed.word ≡ [] → v ≡ [] → ⊥)
  rest r l =
      let m = line-past passed.word (plain-whole passed.word passed.plain) (sym passed.text ∙ l.text) in
      let h = sym (all_append is_plain passed.word m.0) ∙ ap (all is_plain) (sym m.1) ∙ titled-plain l.titled in (
        m.0,
        (both (all is_plain passed.word) (all is_plain m.0) h).1,
        m.2,
        λ e f. titled-some l.titled (m.1 ∙ ap (◌++ m.0) e ∙ f),
      )

  pub word-ends : left s p ≡ [] → WordIs s at None
  word-ends e = λ r l. let m = rest r l in omega (arith, ap length (sym e ∙ m.2), length-append m.0 (10 ∷ r))

  module _ (b q : ℕ) (next : NextIs s p (Some (b, q))) where
    pub word-is : b ≡ 10 → at < p → WordIs s at (Some q)
    word-is e l = (
      record {
        name = passed.word;
        titled = titled-in passed.word (passed.some l) passed.plain;
        text = passed.text ∙ ap (passed.word ++◌) (next.0 ∙ ap (◌∷ left s q) e);
      },
      record { on = omega (arith, next.1.on); within = next.1.within },
    )

    pub word-empty : b ≡ 10 → p ≤ at → WordIs s at None
    word-empty e l = λ r k. let m = rest r k in go m.0 r m.1 (sym next.0 ∙ m.2) (m.3 (passed.none l))
      where
        go : (v r : List ℕ) → all is_plain v ≡ true → b ∷ left s q ≡ v ++ (10 ∷ r) → (v ≡ [] → ⊥) → ⊥
        go [] r h f n = n refl
        go (c ∷ v) r h f n =
            let z : c ≡ 10 = cc in
            no_line c (both (not (eqb c 32)) (not (eqb c 10)) (plain_out c (both (is_plain c) (all is_plain v) h).0).1).1 z

    pub word-odd : (b ≡ 10 → ⊥) → is_plain b ≡ false → WordIs s at None
    word-odd n o = λ r k. let m = rest r k in go m.0 r m.1 (sym next.0 ∙ m.2)
      where
        go : (v r : List ℕ) → all is_plain v ≡ true → b ∷ left s q ≡ v ++ (10 ∷ r) → ⊥
        go [] r h f = n (cc)
        go (c ∷ v) r h f =
            let z : c ≡ b = cc in
            clash (both (is_plain c) (all is_plain v) h).0 (ap is_plain z ∙ o)

    pub pass-next : is_plain b ≡ true → Passed s at q
    pass-next h = record {
      word = passed.word ++ (b ∷ []);
      text = passed.text ∙ ap (passed.word ++◌) next.0 ∙ sym (append_assoc passed.word (b ∷ []) (left s q));
      plain = all_append is_plain passed.word (b ∷ []) ∙ rw (passed.plain, h);
      on = omega (arith, passed.on, next.1.on);
      some = λ l. nil-some (passed.word ++ (b ∷ [])) (λ z. omega (arith, length-append passed.word (b ∷ [])));
      none = λ l. absurd (omega (arith, passed.on, next.1.on));
    }

-- ---- the first line

abbrev keyword : List ℕ
keyword = spelled ".model"

model-apart : (w t : List ℕ) → model_line w ++ t ≡ keyword ++ (32 ∷ (w ++ t))
model-apart w t = apart keyword (w ∷ []) t ∙ ap (λ (x : List ℕ). keyword ++ (32 ∷ (x ++ t))) (append-nil w)

module _ (s : List ℕ) where
  pub model-named : (p : ℕ) (r : Option ℕ) → EndedIs s 0 keyword (Some (Ended.Space p)) → WordIs s p r → ModelIs s r
  model-named p (Some q) h g = (
    record {
      name = g.0.name;
      titled = g.0.titled;
      text = h.0 ∙ ap (λ (x : List ℕ). keyword ++ (32 ∷ x)) g.0.text ∙ sym (model-apart g.0.name (10 ∷ left s q));
    },
    record { on = omega (arith, g.1.on); within = g.1.within },
  )
  model-named p None h g = λ r l.
      let e = append_cancel_left keyword (32 ∷ left s p) (32 ∷ (l.name ++ (10 ∷ r))) (sym h.0 ∙ l.text ∙ model-apart l.name (10 ∷ r)) in
      g r (record { name = l.name; titled = l.titled; text = cc })

  pub model-line : (p : ℕ) → EndedIs s 0 keyword (Some (Ended.Line p)) → ModelIs s None
  model-line p h = λ r l.
      let e = append_cancel_left keyword (10 ∷ left s p) (32 ∷ (l.name ++ (10 ∷ r))) (sym h.0 ∙ l.text ∙ model-apart l.name (10 ∷ r)) in
      let z : ◌≡◌ {A = ℕ} 10 32 = cc in
      omega arith

  pub model-cut : EndedIs s 0 keyword (Some Ended.Finish) → ModelIs s None
  model-cut h = λ r l. line-more keyword (l.name ∷ []) r (sym h ∙ l.text ∙ apart keyword (l.name ∷ []) (10 ∷ r))

  pub model-other : EndedIs s 0 keyword None → ModelIs s None
  model-other h = λ r l. h (by_space (l.name ++ (10 ∷ r)) (l.text ∙ model-apart l.name (10 ∷ r)))

-- ---- the three lines

abbrev pub inputs_line : ℕ → List ℕ
inputs_line n = spaced (spelled ".inputs" ∷ first_names 120 n)

abbrev pub outputs_line : ℕ → List ℕ
outputs_line m = spaced (spelled ".outputs" ∷ first_names 121 m)

-- a line, and what comes after it
pub ended-apart : (l : List ℕ) (ls : List (List ℕ)) (r : List ℕ) → ended (l ∷ ls) ++ r ≡ l ++ (10 ∷ (ended ls ++ r))
unfolding ended
ended-apart l ls r = append_assoc (l ++ (10 ∷ [])) (ended ls) r ∙ append_assoc l (10 ∷ []) (ended ls ++ r)

lines-apart : (a b c r : List ℕ) → ended (a ∷ b ∷ c ∷ []) ++ r ≡ a ++ (10 ∷ (b ++ (10 ∷ (c ++ (10 ∷ r)))))
unfolding ended
lines-apart a b c r =
    ended-apart a (b ∷ c ∷ []) r
    ∙ ap (λ (x : List ℕ). a ++ (10 ∷ x)) (ended-apart b (c ∷ []) r ∙ ap (λ (x : List ℕ). b ++ (10 ∷ x)) (ended-apart c [] r))

pub head_apart : (name : List ℕ) (n m : ℕ) (r : List ℕ)
    → ended (head_lines name n m) ++ r ≡ model_line name ++ (10 ∷ (inputs_line n ++ (10 ∷ (outputs_line m ++ (10 ∷ r)))))
unfolding head_lines
head_apart name n m r = lines-apart (model_line name) (inputs_line n) (outputs_line m) r

-- no LF is in them
pub inputs-whole : (n : ℕ) → whole (inputs_line n) ≡ true
unfolding spelled
inputs-whole n = clear-line (spelled ".inputs" ∷ first_names 120 n) (names-clear 120 n refl)

pub outputs-whole : (m : ℕ) → whole (outputs_line m) ≡ true
unfolding spelled
outputs-whole m = clear-line (spelled ".outputs" ∷ first_names 121 m) (names-clear 121 m refl)

pub model-whole : (w : List ℕ) → Titled w → whole (model_line w) ≡ true
unfolding spelled
model-whole w h = clear-line (spelled ".model" ∷ w ∷ []) (together (is_clear w) true h.clear refl)

module _ (s : List ℕ) where
  pub head-model : ModelIs s None → HeadIs s None
  head-model h = λ n m r g.
      h (inputs_line n ++ (10 ∷ (outputs_line m ++ (10 ∷ r))))
      (record { name = g.name; titled = g.titled; text = g.text ∙ head_apart g.name n m r })

  module _ (p : ℕ) (model : ModelIs s (Some p)) where
    after-model : (n m : ℕ) (r : List ℕ) → Headed (left s 0) n m r → left s p ≡ inputs_line n ++ (10 ∷ (outputs_line m ++ (10 ∷ r)))
    after-model n m r g =
        (line-one (model_line model.0.name) (model_line g.name) (left s p) (inputs_line n ++ (10 ∷ (outputs_line m ++ (10 ∷ r))))
        (model-whole model.0.name model.0.titled) (model-whole g.name g.titled)
        (sym model.0.text ∙ g.text ∙ head_apart g.name n m r)).1

    pub head-inputs : ListIs (spelled ".inputs") 120 s p None → HeadIs s None
    head-inputs h = λ n m r g. h n (outputs_line m ++ (10 ∷ r)) (after-model n m r g)

    module _ (i q : ℕ) (inputs : ListIs (spelled ".inputs") 120 s p (Some (i, q))) where
      pub head-outputs : ListIs (spelled ".outputs") 121 s q None → HeadIs s None
      head-outputs h = λ n m r g.
          h m r (line-one (inputs_line i) (inputs_line n) (left s q) (outputs_line m ++ (10 ∷ r)) (inputs-whole i) (inputs-whole n)
          (sym inputs.0 ∙ after-model n m r g)).1

      pub head-is : (o r : ℕ) → ListIs (spelled ".outputs") 121 s q (Some (o, r)) → HeadIs s (Some (record { inputs = i; outputs = o; first = r }))
      head-is o r outputs = (
        record {
          name = model.0.name;
          titled = model.0.titled;
          text = model.0.text
              ∙ ap (λ (x : List ℕ). model_line model.0.name ++ (10 ∷ x)) (inputs.0 ∙ ap (λ (x : List ℕ). inputs_line i ++ (10 ∷ x)) outputs.0)
              ∙ sym (head_apart model.0.name i o (left s r));
        },
        record { on = omega (arith, outputs.1.on); within = outputs.1.within },
        inputs.2,
        outputs.2,
      )
