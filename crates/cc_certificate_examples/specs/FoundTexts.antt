-- What is said of bytes as a certificate, and of texts as parts of its lines.
use Rattle.std.specs.Prelude.{◌≡◌, ℕ, List, ◌++◌, codes}
use Rattle.cc_certificate_text.specs.Certificates.{IsBadLine}
use Rattle.cc_certificate_judging.specs.Answers.{Found, HasBadNode, IsFound, found_text}

-- This is written of what is found of the bytes.
abbrev pub Says : List ℕ → List ℕ → Type 0
Says bytes written = (found : Found) × IsFound bytes found × (found_text found ≡ written)

-- the same of nodes, each with its line feed, behind the term `1`
abbrev pub behind_term : List ℕ → List ℕ
behind_term nodes = codes "cert 1\nterm 1\n" ++ nodes

abbrev pub NodesSay : List ℕ → List ℕ → Type 0
NodesSay nodes written = Says (behind_term nodes) written

-- The text is that of a term, behind binds of a number `x` and of a function `f`; or its line is bad. A node stands
-- behind it that breaks its rule whatever the term is.
abbrev pub around_term : List ℕ → List ℕ
around_term text = codes "cert 1\nbind x: Int\nbind f: (_0: Int) -> Int\nterm " ++ text ++ codes "\n1 set [] {} <: {}\n"

abbrev pub IsTerm : List ℕ → Type 0
IsTerm text = IsFound (around_term text) (HasBadNode 1)

abbrev pub IsNoTerm : List ℕ → Type 0
IsNoTerm text = IsBadLine (around_term text) 4

-- The text is that of the type of a bind behind a number `x`, or its line is bad.
abbrev pub around_type : List ℕ → List ℕ
around_type text = codes "cert 1\nbind x: Int\nbind y: " ++ text ++ codes "\nterm 1\n1 set [] {} <: {}\n"

abbrev pub IsType : List ℕ → Type 0
IsType text = IsFound (around_type text) (HasBadNode 1)

abbrev pub IsNoType : List ℕ → Type 0
IsNoType text = IsBadLine (around_type text) 3

-- The text is that of the elements of a set in a node, behind binds of `b` and then of `a`, or its line is bad.
abbrev pub around_set : List ℕ → List ℕ
around_set text = codes "cert 1\nbind b: Int\nbind a: Int\nterm 1\n1 t-lit [] : Int^{" ++ text ++ codes "}\n"

abbrev pub IsSet : List ℕ → Type 0
IsSet text = IsFound (around_set text) (HasBadNode 1)

abbrev pub IsNoSet : List ℕ → Type 0
IsNoSet text = IsBadLine (around_set text) 5
