use Rattle.std.proofs.Common.{◌≡◌, ◌++◌, OnOk, sym, subst}
use Rattle.std.specs.String.{string_bytes}
use Rattle.cc_core.specs.TermViews.{bind_of}
use Rattle.cc_certificate_writing.specs.Certificates.{line, bind_line}
use Rattle.cc_certificate_writing.proofs.certificates.put_bind.Goals as goal

pub returns-in-Unread : goal.returns-in-Unread
returns-in-Unread c =
    subst
    (λ bind. OnOk c.put_unread_line.result (string_bytes c.put_unread_line.new.out ≡ string_bytes c.args.out.now ++ line (c.args.front.now ++ bind_line c.args.names.now.names.items c.args.position (bind_of bind))))
    (sym c.in-Unread.is) c.put_unread_line.ensures
