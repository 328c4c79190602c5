-- The chains: what a walk along one passes by adds nothing. Assumes nothing.
use Prim.Native.Nat.{ℕ, zero, suc, ◌+◌, ◌%◌, ◌<◌, ◌≤◌}
use mathlib.Core.Path.{◌≡◌, refl, sym, ap, ◌∙◌}
use mathlib.Core.{Logic.inl, Logic.inr, List.List}
use native.Mathlib.Numerals.{add-one}
use native.Mathlib.Omega.{arith}
use lib.Dec.{eqb}
use lib.ListN.{length, get_or, take}
use borrow.Author.Tests.{eqb-true, eqb-false}
use Rattle.sets.specs.{Lists.total, Sets.same, Sets.apart}
use Rattle.sets.proofs.{Truth.decided, Truth.both, Truth.refuted, Places.total-next, Sets.same-eq}
use Rattle.extract_gains.specs.Gains.{Turns, none}
use Rattle.extract_partners.specs.Table.{part_at, left_at, use_gain, code_of, first, place_of, code_at, newest, Entered}
use Rattle.extract_partners.proofs.Turning.{Partly, partly-first, partly-as, partly-then, partly-end}

-- the newest place of a chain stands before those that come later
pub newest-below : (r : List ℕ) (h e : ℕ) → newest r h e < place_of e
unfolding newest
newest-below r h zero = omega arith
newest-below r h (suc e) = elim (decided (eqb (code_at r e % first) h)) [
  | inl q ↦ rw q (omega arith)
  | inr q ↦ rw q (omega (arith, newest-below r h e))
]

-- it goes by the codes of those entries alone
pub newest-same : (r s : List ℕ) (h n : ℕ) → ((d : ℕ) → d < n → code_at s d ≡ code_at r d) → newest s h n ≡ newest r h n
unfolding newest
newest-same r s h zero same = refl
newest-same r s h (suc n) same = rw (same n (omega arith), newest-same r s h n (λ d b. same d (omega arith)))

module _ (ws r : List ℕ) (h : ℕ) where
  -- of the first e removals those in other chains add nothing
  abbrev Quiet : ℕ → (ℕ → ℕ) → Type 0
  Quiet e g = (c : ℕ) → c < e → (code_at r c % first ≡ h → ⊥) → g (get_or ws c 0) ≡ 0

  next-total : (g : ℕ → ℕ) (e : ℕ) → e < length ws → total g (take (suc e) ws) ≡ total g (take e ws) + g (get_or ws e 0)
  next-total g e l = rw (← add-one e) (total-next g ws e 0 l)

  -- at the end of a chain nothing is left
  pub chain-end : (e : ℕ) → e ≤ length ws → newest r h e < first → (g : ℕ → ℕ) → Quiet e g → total g (take e ws) ≡ 0
  unfolding newest
  chain-end zero l b g q = refl
  chain-end (suc e) l b g q = elim (decided (eqb (code_at r e % first) h)) [
    | inl t ↦ absurd (omega (arith, rw t at b))
    | inr t ↦ omega (
      arith,
      next-total g e (omega arith),
      chain-end e (omega arith) (rw t at b) g (λ c i. q c (omega arith)),
      q e (omega arith) (eqb-false (code_at r e % first) h t),
    )
  ]

  -- where a walk stands at removal d, those from d + 1 on are done
  pub record Standing (e : ℕ) : Type 0 where
    pub entry : ℕ
    pub before : entry < e
    pub place : newest r h e ≡ place_of entry
    pub alike : code_at r entry % first ≡ h
    pub left : (g : ℕ → ℕ) → Quiet e g → total g (take e ws) ≡ total g (take entry ws) + g (get_or ws entry 0)

  pub chain-at : (e : ℕ) → e ≤ length ws → first ≤ newest r h e → Standing e
  unfolding newest
  chain-at zero l b = absurd (omega arith)
  chain-at (suc e) l b = elim (decided (eqb (code_at r e % first) h)) [
    | inl t ↦ record {
      entry = e;
      before = omega arith;
      place = rw t;
      alike = eqb-true (code_at r e % first) h t;
      left = λ g q. next-total g e (omega arith);
    }
    | inr t ↦
        let s = chain-at e (omega arith) (rw t at b) in
        record {
          entry = s.entry;
          before = omega (arith, s.before);
          place = rw t s.place;
          alike = s.alike;
          left = λ g q. omega (
            arith,
            next-total g e (omega arith),
            s.left g (λ c i. q c (omega arith)),
            q e (omega arith) (eqb-false (code_at r e % first) h t),
          );
        }
  ]

-- ---- a walk along the chain of removal w, which is met with the first e

module _ (f : List (List ℕ)) (ws r : List ℕ) (e w code : ℕ) (s : Entered f ws r e) (l : code ≡ code_of (left_at f w)) where
  -- a removal of another code does not meet it
  other-code : (k c : ℕ) → c < e → (code_at r c ≡ code → ⊥) → use_gain f k (get_or ws c 0) w ≡ 0
  unfolding use_gain
  other-code k c b n =
      let v = get_or ws c 0 in
      rw (refuted (λ z. n (s.codes c b
      ∙ ap code_of (same-eq (left_at f v) (left_at f w) (both (same (left_at f v) (left_at f w)) (apart (part_at v) (part_at w)) z).0) ∙ sym l)))

  quiet : (k c : ℕ) → c < e → (code_at r c % first ≡ code % first → ⊥) → use_gain f k (get_or ws c 0) w ≡ 0
  quiet k c b n = other-code k c b (λ q. n (ap (◌% first) q))

  abbrev gains : ℕ → ℕ → ℕ
  gains e k = total (λ v. use_gain f k v w) (take e ws)

  pub record Walk (t₀ g₀ t g : List ℕ) (at : ℕ) : Type 0 where
    pub upto : ℕ
    pub within : upto ≤ e
    pub stands : at ≡ newest r (code % first) upto
    pub partly : Partly t₀ g₀ t g (gains upto) (gains e)

  pub walk_first : (t g : List ℕ) (at : ℕ) → code % first < first → at ≡ get_or r (code % first) 0 → Walk t g t g at
  walk_first t g at h q = record {
    upto = e;
    within = omega arith;
    stands = q ∙ s.chained.heads (code % first) h;
    partly = partly-first t g (gains e);
  }

  module _ {t₀ g₀ t g : List ℕ} {at : ℕ} (p : Walk t₀ g₀ t g at) where
    pub walk_end : at < first → Turns t₀ g₀ t g none (gains e)
    walk_end b = partly-end p.partly (λ k. chain-end ws r (code % first) p.upto (omega (arith, p.within, s.within))
        (omega (arith, p.stands)) (λ v. use_gain f k v w) (λ c i. quiet k c (omega (arith, p.within))))

    -- it stands at a removal
    pub walk_at : first ≤ at → Standing ws r (code % first) p.upto
    walk_at b = chain-at ws r (code % first) p.upto (omega (arith, p.within, s.within)) (omega (arith, p.stands))

    module _ (b : first ≤ at) where
      pub walk-place : at ≡ place_of (walk_at b).entry
      walk-place = p.stands ∙ (walk_at b).place

      pub walk-below : (walk_at b).entry < e
      walk-below = omega (arith, (walk_at b).before, p.within)

      link : get_or r at 0 ≡ newest r (code % first) (walk_at b).entry
      link = ap (λ i. get_or r i 0) walk-place ∙ s.chained.links (walk_at b).entry walk-below
          ∙ ap (λ h. newest r h (walk_at b).entry) (walk_at b).alike

      pub walk-falls : get_or r at 0 < at
      walk-falls = omega (arith, link, walk-place, newest-below r (code % first) (walk_at b).entry)

      rest : (k : ℕ) → gains p.upto k ≡ gains (walk_at b).entry k + use_gain f k (get_or ws (walk_at b).entry 0) w
      rest k = (walk_at b).left (λ v. use_gain f k v w) (λ c i. quiet k c (omega (arith, p.within)))

      -- a removal of the same code is met
      pub walk-met : {u h : List ℕ} {d next : ℕ} → d ≡ (walk_at b).entry → next ≡ get_or r at 0
          → Turns t g u h none (λ k. use_gain f k (get_or ws d 0) w) → Walk t₀ g₀ u h next
      walk-met q i n = record {
        upto = (walk_at b).entry;
        within = omega (arith, walk-below);
        stands = i ∙ link;
        partly = partly-then p.partly n (λ k. rest k ∙ ap (λ j. gains (walk_at b).entry k + use_gain f k (get_or ws j 0) w) (sym q));
      }

      -- another is passed by
      pub walk-passed : {next : ℕ} → (get_or r (at + 1) 0 ≡ code → ⊥) → next ≡ get_or r at 0 → Walk t₀ g₀ t g next
      walk-passed n i = record {
        upto = (walk_at b).entry;
        within = omega (arith, walk-below);
        stands = i ∙ link;
        partly = partly-as p.partly (λ k.
            let z = other-code k (walk_at b).entry walk-below (λ q. n (ap (λ i. get_or r (i + 1) 0) walk-place ∙ q)) in
            omega (arith, rest k));
      }
