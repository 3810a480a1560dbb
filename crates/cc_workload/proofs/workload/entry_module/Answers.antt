use Rattle.cc_workload.proofs.EntryTexts.{entry_joined}
use Rattle.cc_workload.proofs.workload.entry_module.Goals as goal

pub returns : goal.returns
returns c =
    entry_joined c.args.last _ _ _ _ _ c.in_ok-out.ensures.ok c.in_ok-add_numbered.ensures
    c.in_ok-add_numbered-2.ensures c.in_ok-add_numbered-3.ensures c.in_ok-push_str.ensures.bytes
