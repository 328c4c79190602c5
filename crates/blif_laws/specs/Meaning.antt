-- What the laws of BLIF texts speak of: texts in the form, in the paper's words, and what a text is answered.
use Rattle.std.specs.Prelude.{ℕ, ◌<◌, Bool, true, not, ◌&&◌, eqb, ltb}
use mathlib.Core.{Path.◌≡◌, Logic.◌⊎◌}
use mathlib.Core.List.{List, [], ◌∷◌, ◌++◌, map, Memᴰ}
use Rattle.sets.specs.{Lists.all, Sets.asc}
use Rattle.letters.specs.Letters.{name_text}
use Rattle.expression.specs.Expression.{is_cube, reach}
use Rattle.network.specs.{Net.Net, Meaning.Reads, Rules.Lawful, Handed.Return, Handed.gives, Handed.refuses}
use Rattle.image_laws.specs.Meaning.{OneOrder}
use Rattle.blif_laws.specs.Text.{Name, variable, output, name_word, Block, Model, model_text, model_of}
use Rattle.blif_laws.specs.Reading.{joined, Named, is_model_name}

-- a word: neither space nor LF is in it
abbrev pub is_clear : List ℕ → Bool
is_clear w = all (λ b. not (eqb b 32) && not (eqb b 10)) w

-- ---- broken lines

-- somewhere in t a backslash stands right before an LF
abbrev pub Broken : List ℕ → Type 0
Broken t = (a : List ℕ) × (b : List ℕ) × (t ≡ a ++ (92 ∷ 10 ∷ b))

-- the last byte of a is a backslash and the first of b an LF
abbrev pub BreaksAcross : List ℕ → List ℕ → Type 0
BreaksAcross a b = (c : List ℕ) × (d : List ℕ) × (a ≡ c ++ (92 ∷ [])) × (b ≡ 10 ∷ d)

-- t is u with breaks, a backslash and an LF each, put in anywhere
pub data Breaks : List ℕ → List ℕ → Type 0 where
  no_more : Breaks [] []
  kept : (b : ℕ) {u t : List ℕ} → Breaks u t → Breaks (b ∷ u) (b ∷ t)
  put : {u t : List ℕ} → Breaks u t → Breaks u (92 ∷ 10 ∷ t)

-- a text begins with a word, which a space, an LF or the end of the text ends
pub data Starts (t w : List ℕ) : Type 0 where
  by_space : (r : List ℕ) → t ≡ w ++ (32 ∷ r) → Starts t w
  by_line : (r : List ℕ) → t ≡ w ++ (10 ∷ r) → Starts t w
  by_end : t ≡ w → Starts t w

-- ---- the form

-- the words of a block's line after `.names`: the variables that it reads ascend, and a variable that it defines is greater than all of them
pub record NamesLine (ws : List (List ℕ)) (d : Named) : Type 0 where
  pub words : ws ≡ map (name_text 120) d.reads ++ (name_word d.name ∷ [])
  pub ascend : asc d.reads ≡ true
  pub below : (v : ℕ) → d.name ≡ variable v → all (λ u. ltb u v) d.reads ≡ true

-- every row is a cube; a variable is greater than all that it reads; an output is one of m
pub record FormedBlock (m : ℕ) (b : Block) : Type 0 where
  pub cubes : (c : List ℕ) → Memᴰ c b.cubes → is_cube c ≡ true
  pub earlier : (v : ℕ) → b.name ≡ variable v → reach v b.cubes ≡ true
  pub among : (j : ℕ) → b.name ≡ output j → j < m

abbrev pub Formed : Model → Type 0
Formed d = (b : Block) → Memᴰ b d.blocks → FormedBlock d.outputs b

-- a model name: one byte or more, none of them space, tab, CR or LF
pub record Titled (w : List ℕ) : Type 0 where
  pub good : is_model_name w ≡ true
  pub clear : is_clear w ≡ true

-- t is what is written for d under some model name, its last line with or without its LF
pub record Writes (t : List ℕ) (d : Model) : Type 0 where
  pub name : List ℕ
  pub titled : Titled name
  pub text : (t ≡ model_text name d) ⊎ (t ++ (10 ∷ []) ≡ model_text name d)

-- t is a text of the form, but for gaps in its numbers
pub record InForm (t : List ℕ) (d : Model) : Type 0 where
  pub formed : Formed d
  pub writes : Writes t d

-- ---- which names stand, and which are defined

-- a variable stands in the text as an input, or where a block defines or reads it; an output, where it is listed
pub data Stands (d : Model) : Name → Type 0 where
  is_input : {v : ℕ} → v < d.inputs → Stands d (variable v)
  has_block : {v : ℕ} {b : Block} → Memᴰ b d.blocks → b.name ≡ variable v → Stands d (variable v)
  is_read : {v : ℕ} {b : Block} → Memᴰ b d.blocks → Reads b.cubes v → Stands d (variable v)
  is_listed : {j : ℕ} → j < d.outputs → Stands d (output j)

-- a variable stands in the text, and a smaller one nowhere
pub record Gap (d : Model) : Type 0 where
  pub upper : ℕ
  pub lower : ℕ
  pub stands : Stands d (variable upper)
  pub smaller : lower < upper
  pub nowhere : Stands d (variable lower) → ⊥

-- inputs are defined, and what blocks define
pub data Defined (d : Model) : Name → Type 0 where
  as_input : {v : ℕ} → v < d.inputs → Defined d (variable v)
  by_block : {a : Name} {b : Block} → Memᴰ b d.blocks → b.name ≡ a → Defined d a

-- a name stands and is never defined; or a name has two blocks, or an input one
pub data Misdefined (d : Model) : Type 0 where
  never : (a : Name) → Stands d a → (Defined d a → ⊥) → Misdefined d
  twice : (p q r : List Block) (b c : Block) → d.blocks ≡ p ++ (b ∷ (q ++ (c ∷ r))) → b.name ≡ c.name → Misdefined d
  again : {v : ℕ} {b : Block} → Memᴰ b d.blocks → b.name ≡ variable v → v < d.inputs → Misdefined d

-- ---- other orders

-- the elements of one list in another order, each changed by r
pub data Shuffled {A : Type 0} (r : A → A → Type 0) : List A → List A → Type 0 where
  nothing : Shuffled r [] []
  next : {x y : A} {l m : List A} → r x y → Shuffled r l m → Shuffled r (x ∷ l) (y ∷ m)
  swap : (x y : A) (l : List A) → Shuffled r (x ∷ y ∷ l) (y ∷ x ∷ l)
  trans : {l m k : List A} → Shuffled r l m → Shuffled r m k → Shuffled r l k

-- the same name, and the same rows in another order
pub record SameBlock (b c : Block) : Type 0 where
  pub name : b.name ≡ c.name
  pub cubes : Shuffled ◌≡◌ b.cubes c.cubes

-- the same blocks and rows in another order
pub record SameModel (d e : Model) : Type 0 where
  pub inputs : d.inputs ≡ e.inputs
  pub outputs : d.outputs ≡ e.outputs
  pub blocks : Shuffled SameBlock d.blocks e.blocks

-- d is the model of n, in any order of blocks and rows; n is by the rules and stands in the one order
pub record Models (d : Model) (n : Net) : Type 0 where
  pub lawful : Lawful n
  pub order : OneOrder n
  pub same : SameModel d (model_of n)

-- ---- what a text is answered, and when

pub data BlifAnswer (text : List ℕ) : Return → Type 0 where
  -- outside the subset: of no form, or with a gap
  formless : ((d : Model) → InForm (joined text) d → ⊥) → BlifAnswer text (refuses 14)
  gapped : {d : Model} → InForm (joined text) d → Gap d → BlifAnswer text (refuses 14)
  -- after it, a name never defined, or defined twice
  ill_defined : {d : Model} → InForm (joined text) d → (Gap d → ⊥) → Misdefined d → BlifAnswer text (refuses 15)
  -- after both, a rule or a limit
  unruly : {d : Model} → InForm (joined text) d → (Gap d → ⊥) → (Misdefined d → ⊥) → ((n : Net) → Models d n → ⊥) → BlifAnswer text (refuses 10)
  taken : {d : Model} {n : Net} → InForm (joined text) d → Models d n → BlifAnswer text (gives n)
