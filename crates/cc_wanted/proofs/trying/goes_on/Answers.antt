-- The token that was put behind the others is taken away again.
use Rattle.std.proofs.Common.{refl, ◌∙◌, sym}
use Rattle.cc_wanted.proofs.Pushed.{popped_again, pushed_tells}
use Rattle.cc_wanted.proofs.trying.goes_on.Goals as goal

pub returns : goal.returns
returns c = record {
  answered = pushed_tells c.args.tokens.now.tokens.items c.push.new.self.items _ _ c.args.tokens.now.end c.in_ok-yes.yes c.in_ok-yes.ensures c.in_ok-push.ensures.items refl c.requires;
  tokens = popped_again _ _ _ c.pop.result _ _ _ (sym c.in_ok-push.ensures.items ∙ c.pop.ensures.items) c.in_ok-push.ensures.len c.pop.ensures.cases;
  end = refl;
}
