-- How the derivation of a term's type is written, line by line, in a context and with the names of its positions.
use Rattle.std.specs.Prelude.{ℕ, suc, Bool, true, false, List, [], ◌∷◌, ◌++◌, length, codes, Option, Some, None}
use Rattle.std.specs.List.{flat_map}
use Rattle.cc_core.specs.Contexts.{Bind, TermEntry, TypeEntry, Context}
use Rattle.cc_core.specs.Derivations.{Rule, ByFunction, ByTypeFunction, t-abs, t-tabs, t-let, t-boundary}
use Rattle.cc_core.specs.Derivations.{Derivation, Premises, Node, NoPremise, Premise}
use Rattle.cc_core.specs.Terms.{Term}
use Rattle.cc_derivation.specs.Numbers.{own_number, premise_numbers}
use Rattle.cc_print.specs.TypeTexts.{position_text, shape_text, type_under}
use Rattle.cc_print.specs.TermTexts.{term_text}
use Rattle.cc_certificate_text.specs.NodeTexts.{node_line}

-- Which premises stand under one binder more than the node: of a function, a type function and a boundary the first,
-- which is about the body.
abbrev pub binds_first : Rule → Bool
binds_first t-abs = true
binds_first t-tabs = true
binds_first t-boundary = true
binds_first _ = false

-- Of a let, and where functions or type functions are compared, the one behind the first, which is about the body or
-- about what they give.
abbrev pub binds_others : Rule → Bool
binds_others t-let = true
binds_others ByFunction = true
binds_others ByTypeFunction = true
binds_others _ = false

-- so many binders, and one more where that is so
abbrev pub with_binder : Bool → ℕ → ℕ
with_binder true locals = suc locals
with_binder false locals = locals

abbrev mutual
  -- The lines of the nodes in post-order, where so many nodes come before the derivation and so many local binders
  -- stand at its root. A part that is shared has its lines at each of its places.
  pub node_lines : List (List ℕ) → ℕ → ℕ → Derivation → List (List ℕ)
  node_lines names before locals (Node rule premises claim) =
      premise_lines names before (with_binder (binds_first rule) locals) (with_binder (binds_others rule) locals)
      premises
      ++ node_line names locals (own_number before (Node rule premises claim)) rule (premise_numbers before premises)
      claim
      ∷ []

  -- the same of premises, where so many local binders stand at the first one, and so many at those behind it
  pub premise_lines : List (List ℕ) → ℕ → ℕ → ℕ → Premises → List (List ℕ)
  premise_lines names before first_locals other_locals NoPremise = []
  premise_lines names before first_locals other_locals (Premise first rest) =
      node_lines names before first_locals first
      ++ premise_lines names (own_number before first) other_locals other_locals rest

-- The line of what stands at a position: its name, with the type of a variable of terms or the bound of a type
-- variable.
abbrev pub bind_line : List (List ℕ) → ℕ → Bind → List ℕ
bind_line names position (TermEntry shape set) =
    codes "bind " ++ position_text names (codes "_") position ++ codes ": " ++ type_under names 0 shape set
bind_line names position (TypeEntry bound) =
    codes "bind " ++ position_text names (codes "_T") position ++ codes " <: " ++ shape_text names 0 bound

-- the line of what stands there, if anything does
abbrev pub lines_at : List (List ℕ) → ℕ → Option Bind → List (List ℕ)
lines_at names position (Some bind) = bind_line names position bind ∷ []
lines_at names position None = []

-- a line for each entry, the oldest first
abbrev pub bind_lines : List (List ℕ) → Context → List (List ℕ)
bind_lines names [] = []
bind_lines names (newest ∷ older) = bind_lines names older ++ bind_line names (length older) newest ∷ []

-- The lines of a certificate: which form it has, the context, the term, and the nodes of the derivation. What stands in
-- the context has names, and local binders are those of the term alone.
abbrev pub certificate_lines : List (List ℕ) → Context → Term → Derivation → List (List ℕ)
certificate_lines names context term derivation =
    codes "cert 1" ∷ (bind_lines names context
    ++ ((codes "term " ++ term_text names 0 term) ∷ node_lines names 0 0 derivation))

-- a line feed stands behind each line
abbrev pub line : List ℕ → List ℕ
line text = text ++ 10 ∷ []

abbrev pub lines_text : List (List ℕ) → List ℕ
lines_text lines = flat_map line lines

-- the same of lines that stand behind a front each
abbrev pub lines_behind : List ℕ → List (List ℕ) → List ℕ
lines_behind front lines = flat_map (λ text. line (front ++ text)) lines

abbrev pub certificate_text : List (List ℕ) → Context → Term → Derivation → List ℕ
certificate_text names context term derivation = lines_text (certificate_lines names context term derivation)
