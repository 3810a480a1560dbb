use Rattle.std.proofs.Common.{◌≡◌, [], ◌∷◌, ◌++◌, Some, sym, ap, ◌∙◌}
use Rattle.std.specs.Str.{bytes_eq}
use Rattle.indexmap.specs.IndexSet.{insert_key}
use Rattle.cc_submission_reading.specs.Submitting.{last_of}
use Rattle.cc_submission_reading.proofs.LastNames.{last_pushed, put_last}
use Rattle.cc_submission_reading.proofs.so_far.Submitted.present.Goals as goal

pub invariant_of-self-2 : goal.invariant_of-self-2
invariant_of-self-2 c =
    let names = c.args.self.now.modules in
    let old : c.replace-modules.result ≡ names = c.replace-modules.ensures.value ∙ ap (λ it. it.modules) c.self.view_is in
    let put : c.add.new.self ≡ names ++ c.args.name.now ∷ [] =
    put_last names c.args.name.now c.add.new.self c.requires (c.in_ok-add.ensures ∙ ap (λ it. insert_key bytes_eq it c.args.name.now) old) in
    ap Some c.in_ok-last.ensures.cases ∙ sym (ap last_of put ∙ last_pushed names c.args.name.now)

pub returns : goal.returns
returns c =
    let names = c.args.self.now.modules in
    let old : c.replace-modules.result ≡ names = c.replace-modules.ensures.value ∙ ap (λ it. it.modules) c.self.view_is in
    let put : c.add.new.self ≡ names ++ c.args.name.now ∷ [] =
    put_last names c.args.name.now c.add.new.self c.requires (c.in_ok-add.ensures ∙ ap (λ it. insert_key bytes_eq it c.args.name.now) old) in
    λ i. record { devices = (c.self.view_is i).devices; modules = put i }
