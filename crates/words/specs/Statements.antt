-- What is proved of words. Assumes nothing.
use Rattle.std.specs.Prelude.{◌≡◌, ℕ, ◌≤◌, Bool, true, ◌↔◌, List, length, Some, None, Ok, Option, Result}
use Rattle.words.specs.declared.fault.WordFault.{WordFault}
use Rattle.words.specs.declared.part.Part.{Part}
use Rattle.terms.specs.Terms.{Term, Closed, Value}
use Rattle.terms.specs.Signatures.{Signature}
use Rattle.words.specs.Words.{word, read, Fits}
use Rattle.words.specs.Ends.{Ends, Begins}
use Rattle.terms.specs.Sorting.{Environment, Sorted, closed, Lawful}
use Rattle.terms.specs.Positions.{part, graft}
use Rattle.words.specs.Places.{letters_of, replaced}

-- `read` and `word` undo each other
abbrev pub ReadsBack : Signature → List ℕ → Type 0
ReadsBack S w = (t : Term) → (read S w ≡ Some t) ↔ ((word t ≡ w) × Fits S t)

-- the end of a part is what the finding finds
abbrev pub Found : Signature → List ℕ → Option ℕ → Type 0
Found S w r = (n : ℕ) → (r ≡ Some n) ↔ Ends S w n

-- it is the length of the word of the term in front, and none where no term is in front
abbrev pub LengthInFront : Signature → List ℕ → Option ℕ → Type 0
LengthInFront S w r = ((n : ℕ) → (r ≡ Some n) ↔ Begins S w n) × ((r ≡ None) ↔ ((n : ℕ) → Begins S w n → ⊥))

-- a word is one whole term exactly where it is the word of a term
abbrev pub TellsWhole : Signature → List ℕ → Option ℕ → Type 0
TellsWhole S w r = (r ≡ None) ↔ ((t : Term) × (word t ≡ w) × Fits S t)

-- on the word of a term that fits, the walk goes through exactly when the term has the sort due
abbrev pub FindsSort : Signature → Environment → ℕ → List ℕ → Result ℕ ℕ → Type 0
FindsSort S e k w r = (t : Term) → Fits S t → word t ≡ w → (r ≡ Ok (length w)) ↔ Sorted S e t k

-- the word of a closed term of some sort, of at most n letters
abbrev pub ClosedWord : Signature → ℕ → List ℕ → Type 0
ClosedWord S n w = (t : Term) × (k : ℕ) × (word t ≡ w) × (length w ≤ n) × Closed t × Sorted S closed t k

-- and each of its cells is lawful
abbrev pub LawfulClosedWord : Signature → (ℕ → Bool) → ℕ → List ℕ → Type 0
LawfulClosedWord S lawful n w = (t : Term) × (k : ℕ) × (word t ≡ w) × (length w ≤ n) × Closed t × Sorted S closed t k × Lawful lawful t

-- no fault exactly there
abbrev pub NoFaultAt : Type 0 → Option WordFault → Type 0
NoFaultAt P r = (r ≡ None) ↔ P

-- a word is a value exactly when its term is
abbrev pub TellsValue : Signature → List ℕ → Bool → Type 0
TellsValue S w r = (t : Term) → Fits S t → word t ≡ w → (r ≡ true) ↔ Value t

-- the answer is the part of the word that is the word of the part of the term; with another word in its place it is the word of the graft
abbrev pub Cuts : Term → List ℕ → List ℕ → Option Term → Option Part → Type 0
Cuts t p w None r = r ≡ None
Cuts t p w (Some u) r = (q : Part) × (r ≡ Some q) × (letters_of q w ≡ word u) × ((s : Term) → replaced q w (word s) ≡ word (graft t p s))

-- and so for the term whose word it is
abbrev pub CutsPart : Signature → List ℕ → List ℕ → Option Part → Type 0
CutsPart S p w r = (t : Term) → Fits S t → word t ≡ w → Cuts t p w (part t p) r
