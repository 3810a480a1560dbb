-- Terms in their environment: each variable that a binder outside of the term binds becomes its store position.
use Rattle.std.specs.Prelude.{ℕ, zero, suc, Option, Some, None}
use Rattle.cc_capture.specs.declared.var.Var.{Var}
use Rattle.cc_capture.specs.declared.var.Var.TheVariants.{Bound, Free}
use Rattle.cc_core.specs.Terms.{Term}
use Rattle.cc_core.specs.Traversal.{Action, act_term}
use Rattle.cc_core.specs.Substitution.{moving}
use Rattle.cc_runs.specs.Alike.{erased}
use Rattle.cc_machine.specs.Environments.{Environment}

-- the position of an index that stands under so many binders of the term itself, which stand for none
abbrev pub found_under : Environment → ℕ → ℕ → Option ℕ
found_under environment zero index = environment index
found_under environment (suc depth) zero = None
found_under environment (suc depth) (suc index) = found_under environment depth index

-- the position as a variable, or the index where there is none
abbrev pub variable_or : ℕ → Option ℕ → Var
variable_or index (Some position) = Free position
variable_or index None = Bound index

-- what becomes of a variable under so many binders of the term
abbrev pub put_environment : Environment → ℕ → Var → Var
put_environment environment depth (Bound index) = variable_or index (found_under environment depth index)
put_environment environment depth (Free position) = Free position

-- the action that puts positions for indices
abbrev pub putting_all : Environment → Action
putting_all environment = moving (put_environment environment)

-- the variable in the environment
abbrev pub resolved : Environment → Var → Var
resolved environment variable = put_environment environment zero variable

-- the term in the environment, without what is written for types and shapes
abbrev pub put_all : Environment → Term → Term
put_all environment term = erased (act_term (putting_all environment) zero term)

-- the same of a body, whose own binder stays
abbrev pub put_body : Environment → Term → Term
put_body environment body = erased (act_term (putting_all environment) 1 body)
