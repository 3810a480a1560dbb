-- The kinds that are found by trying are those that are wanted.
use Rattle.std.proofs.Common.{◌∙◌, filter, ap}
use Rattle.std.proofs.lemmas.Result.{IfOk-weaker}
use Rattle.cc_lex.specs.Lexemes.{placed_all}
use Rattle.cc_wanted.specs.WantedTokens.{every_kind}
use Rattle.cc_wanted.specs.Trying.{goes_on_with}
use Rattle.cc_wanted.proofs.WantedKinds.{are-wanted}
use Rattle.cc_wanted.proofs.wanted.wanted.Goals as goal

pub returns : goal.returns
returns c =
    IfOk-weaker c.kinds_behind.result _ _ (λ told h. are-wanted (placed_all c.args.front.now) told.items c.requires (h ∙ ap (λ front. filter (goes_on_with front) every_kind) c.in_ok-tokens.ensures.tokens)) c.kinds_behind.ensures
