-- A new entry: the table stays sound, and the gain of its key rises. Assumes nothing.
use mathlib.Core.Path.{◌≡◌, sym, ◌∙◌, ap}
use mathlib.Core.{Bool.cond, List.List, List.Memᴰ}
use Prim.Native.Nat.{ℕ, suc, ◌+◌, ◌<◌, ◌≤◌}
use native.Mathlib.Numerals.{add-one}
use native.Mathlib.Omega.{arith}
use lib.Dec.{eqb}
use lib.ListN.{length, get_or, set, length-set}
use lib.Seq.{get_or-set_same, get_or-set_other}
use borrow.Author.Tests.{eq-eqb, ne_eqb}
use Rattle.sets.proofs.Truth.{Stand, below, equal, beyond, compared}
use Rattle.extract_gains.specs.Gains.{entries, first, many, place_of, link_at, key_at, head_of, newest, holds, gain, Sound, Keyed, Turns, only, none}
use Rattle.extract_gains.specs.Parts.{Missing}
use Rattle.extract_gains.proofs.Chains.{head-from, head-to, newest-same}
use Rattle.extract_gains.proofs.{Holding.holds_same, Table.many-few, Changing.eqb-turn, Changing.only_same}

-- the link, the key, the head and the number of entries, written one after the other
abbrev linked : List ℕ → ℕ → ℕ → List ℕ
linked t e h = set t (place_of e) (get_or t h 0)

abbrev tagged : List ℕ → ℕ → ℕ → ℕ → List ℕ
tagged t e h key = set (linked t e h) (place_of e + 1) key

abbrev headed : List ℕ → ℕ → ℕ → ℕ → List ℕ
headed t e h key = set (tagged t e h key) h (place_of e)

abbrev pub grown : List ℕ → ℕ → ℕ → ℕ → List ℕ
grown t e h key = set (headed t e h key) 0 (e + 1)

length-grown : (t : List ℕ) (e h key : ℕ) → length (grown t e h key) ≡ length t
length-grown t e h key = simp length-set

module _ (t g : List ℕ) (key by e h : ℕ) (s : Sound t g) (pe : e ≡ many t) (ph : h ≡ head_of key) (r : e < entries) (free : Missing t key) where
  u : List ℕ
  u = grown t e h key

  from : 1 ≤ h
  from = rw ph (head-from key)

  to : h < first
  to = rw ph (head-to key)

  -- the other words are as they were
  others : (i : ℕ) → (i ≡ 0 → ⊥) → (i ≡ h → ⊥) → (i ≡ place_of e → ⊥) → (i ≡ place_of e + 1 → ⊥) → get_or u i 0 ≡ get_or t i 0
  unfolding u
  others i a b c d =
      get_or-set_other (headed t e h key) 0 i (e + 1) 0 a
      ∙ get_or-set_other (tagged t e h key) h i (place_of e) 0 b
      ∙ get_or-set_other (linked t e h) (place_of e + 1) i key 0 d
      ∙ get_or-set_other t (place_of e) i (get_or t h 0) 0 c

  many-new : many u ≡ e + 1
  unfolding u
  many-new = get_or-set_same (headed t e h key) 0 (e + 1) 0 (simp length-set (omega (arith, s.long)))

  head-new : get_or u h 0 ≡ place_of e
  unfolding u
  head-new =
      get_or-set_other (headed t e h key) 0 h (e + 1) 0 (λ q. omega (arith, from))
      ∙ get_or-set_same (tagged t e h key) h (place_of e) 0 (simp length-set (omega (arith, s.long, to)))

  key-new : key_at u e ≡ key
  unfolding u
  key-new =
      get_or-set_other (headed t e h key) 0 (place_of e + 1) (e + 1) 0 (λ q. omega arith)
      ∙ get_or-set_other (tagged t e h key) h (place_of e + 1) (place_of e) 0 (λ q. omega (arith, to))
      ∙ get_or-set_same (linked t e h) (place_of e + 1) key 0 (simp length-set (omega (arith, s.long)))

  link-new : link_at u e ≡ get_or t h 0
  unfolding u
  link-new =
      get_or-set_other (headed t e h key) 0 (place_of e) (e + 1) 0 (λ q. omega arith)
      ∙ get_or-set_other (tagged t e h key) h (place_of e) (place_of e) 0 (λ q. omega (arith, to))
      ∙ get_or-set_other (linked t e h) (place_of e + 1) (place_of e) key 0 (λ q. omega arith)
      ∙ get_or-set_same t (place_of e) (get_or t h 0) 0 (omega (arith, s.long))

  -- and so are the entries before
  keys : (d : ℕ) → d < e → key_at u d ≡ key_at t d
  keys d b = others (place_of d + 1) (λ q. omega arith) (λ q. omega (arith, to)) (λ q. omega arith) (λ q. omega arith)

  links : (d : ℕ) → d < e → link_at u d ≡ link_at t d
  links d b = others (place_of d) (λ q. omega arith) (λ q. omega (arith, to)) (λ q. omega arith) (λ q. omega arith)

  head-old : (i : ℕ) → 1 ≤ i → i < first → get_or t i 0 ≡ newest u i e
  head-old i a b = s.heads i a b ∙ ap (newest t i) (sym pe) ∙ sym (newest-same t u i e keys)

  heads-new : (i : ℕ) → 1 ≤ i → i < first → get_or u i 0 ≡ newest u i (suc e)
  unfolding newest
  heads-new i a b = rw key-new (go (compared i h))
    where
      go : Stand i h → get_or u i 0 ≡ cond (eqb (head_of key) i) (place_of e) (newest u i e)
      go (equal q _ _) = rw (eq-eqb (head_of key) i (sym ph ∙ sym q)) (ap (λ j. get_or u j 0) q ∙ head-new)
      go (below q _ _) = rw (ne_eqb (head_of key) i (λ z. omega (arith, ph)))
          (others i (λ z. omega arith) (λ z. omega arith) (λ z. omega arith) (λ z. omega arith) ∙ head-old i a b)
      go (beyond q _ _) = rw (ne_eqb (head_of key) i (λ z. omega (arith, ph)))
          (others i (λ z. omega arith) (λ z. omega arith) (λ z. omega arith) (λ z. omega arith) ∙ head-old i a b)

  links-new : (d : ℕ) → d < suc e → link_at u d ≡ newest u (head_of (key_at u d)) d
  links-new d l = go (compared d e)
    where
      go : Stand d e → link_at u d ≡ newest u (head_of (key_at u d)) d
      go (below q _ _) = rw (keys d q, newest-same t u (head_of (key_at t d)) d (λ c b. keys c (omega arith))) (links d q ∙ s.links d (omega arith))
      go (equal q _ _) = rw (q, key-new, ← ph) (link-new ∙ head-old h from to)
      go (beyond q _ _) = absurd (omega arith)

  once-new : (c d : ℕ) → c < d → d < suc e → key_at u c ≡ key_at u d → ⊥
  once-new c d b l same = go (compared d e)
    where
      go : Stand d e → ⊥
      go (below q _ _) = s.once c d b (omega arith) (sym (keys c (omega arith)) ∙ same ∙ keys d q)
      go (equal q _ _) = free c (omega arith) (sym (keys c (omega arith)) ∙ same ∙ ap (key_at u) q ∙ key-new)
      go (beyond q _ _) = absurd (omega arith)

  sound-new : Sound u (set g e by)
  unfolding u
  sound-new = record {
    long = length-grown t e h key ∙ s.long;
    beside = length-set g e by ∙ s.beside;
    few = omega (arith, many-new);
    heads = λ i a b. heads-new i a b ∙ ap (newest u i) (sym (many-new ∙ add-one e));
    links = λ d b. links-new d (omega (arith, many-new));
    once = λ c d b l. once-new c d b (omega (arith, many-new));
  }

  gain-new : (k : ℕ) → gain u (set g e by) k ≡ only key by k + gain t g k
  unfolding gain holds
  gain-new k = rw (many-new, add-one, key-new, get_or-set_same g e by 0 (omega (arith, s.beside)), eqb-turn key k)
      (ap (λ x. only key by k + x) (holds_same t u g (set g e by) k e keys
      (λ d b. get_or-set_other g e d by 0 (λ q. omega arith)) ∙ ap (holds t g k) pe))

  -- the keys of a list that has the new one
  keyed-new : (l : List ℕ) → Keyed t l → Memᴰ key l → Keyed u l
  keyed-new l old new d b = elim (compared d e) [
    | below q _ _ ↦ rw (keys d q) (old d (omega arith))
    | equal q _ _ ↦ rw (q, key-new) new
    | beyond q _ _ ↦ absurd (omega (arith, many-new))
  ]

  -- an entry has room where the keys are few
  fits-new : (l : List ℕ) → length l + 1 < entries → Keyed t l → Memᴰ key l → (many u < entries) × Keyed u l
  fits-new l short old new = (omega (arith, many-new, many-few s l old), keyed-new l old new)

pub turns-enter : (t g : List ℕ) (key by e h : ℕ) → e ≡ many t → h ≡ head_of key → e < entries → (Sound t g → Missing t key) → 0 < by
    → Turns t g (grown t e h key) (set g e by) none (only key by)
unfolding u
turns-enter t g key by e h pe ph r free some = record {
  stays = λ f. absurd (omega arith);
  sound = λ s f. sound-new t g key by e h s pe ph r (free s);
  moves = λ s f k. omega (arith, gain-new t g key by e h s pe ph r (free s) k);
  fits = λ s b l short old falls rise most. fits-new t g key by e h s pe ph r (free s) l short old (rise key (omega (arith, only_same key by)));
}
