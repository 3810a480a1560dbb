use Rattle.std.proofs.Common.{◌∙◌, ap, sym, subst, take}
use Rattle.std.specs.List.{prefix_len}
use Rattle.cc_grammar.specs.Reads.{BeginsLow}
use Rattle.cc_lex.specs.Lexemes.{placed_all}
use Rattle.cc_text_reasoning.specs.Places.{stands_elsewhere}
use Rattle.cc_text_reasoning.proofs.TokenLaws.{found, have_unwanted}
use Rattle.cc_text_reasoning.proofs.fronts.unwanted.Goals as goal
use Rattle.cc_wanted.specs.WantedTokens.{AreWanted}

pub wanted-requires : goal.wanted-requires
wanted-requires c =
    subst (λ tokens. BeginsLow (placed_all (take c.count_before-count.result tokens))) (sym c.deref-2.ensures.value)
    (found c.args.tokens.tokens.items c.args.tokens.end c.args.at c.count_before-count.result
    (c.count_before-count.ensures ∙ ap (prefix_len (stands_elsewhere c.args.at)) c.deref.ensures.value) c.requires.rise c.requires.refused).low

pub returns : goal.returns
returns c =
    have_unwanted c.args.tokens.tokens.items c.args.tokens.end c.args.at c.count_before-count.result _ _
    (found c.args.tokens.tokens.items c.args.tokens.end c.args.at c.count_before-count.result
    (c.count_before-count.ensures ∙ ap (prefix_len (stands_elsewhere c.args.at)) c.deref.ensures.value) c.requires.rise c.requires.refused)
    c.kind_at-found.ensures
    (subst (λ tokens. AreWanted (placed_all (take c.count_before-count.result tokens)) c.in_ok-wanted.wanted.items) c.deref-2.ensures.value c.in_ok-wanted.ensures)
