use Rattle.std.proofs.Common.{◌≡◌, ℕ, List, length, sym, ap, ◌∙◌, subst}
use Rattle.std.specs.Prelude.{All}
use Rattle.std.specs.declared.alloc.Global.{Global}
use Rattle.std.specs.declared.vec.Vec.{Vec}
use Rattle.certificate.specs.declared.entries.Entry.{Entry}
use Rattle.certificate.specs.declared.entries.Header.{Header}
use Rattle.certificate.specs.Certificates.{IsCertificate}
use Rattle.certificate.specs.Lines.{IsHull}
use Rattle.cert_check.specs.Closing.{header_of}
use Rattle.cert_check.specs.Entries.{entries_of}
use Rattle.frontier_core.specs.Tree.{tree_of}
use Rattle.probe_family.specs.declared.ending.Closed.{Closed}
use Rattle.probe_family.specs.Roots.{roots_of}
use Rattle.maskverif_cli.specs.Kept.{IsCertificateOf}
use Rattle.maskverif_cli.proofs.Replies.{if-ok}
use Rattle.maskverif_cli.proofs.Trees.{all-hulls, all-long, roots-families, tree-listed}
use Rattle.maskverif_cli.proofs.verify.certificate_text.Goals as goal

pub entries-requires-clause-hulls : goal.entries-requires-clause-hulls
entries-requires-clause-hulls c =
    let x = c.args.netlist.now.instance in
    let order = c.args.question.order in
    subst (All (λ (each : Closed). length each.hull ≡ length x.probes)) (sym c.requires.tree)
    (all-long (length x.probes) (tree_of x order) (tree-listed x order c.requires.none c.requires.most).hulls)

pub write-requires : goal.write-requires
write-requires c =
    let x = c.args.netlist.now.instance in
    let order = c.args.question.order in
    let listed = c.as_slice.ensures.value ∙ c.in_ok-list.ensures.entries ∙ ap (entries_of x) c.requires.tree in
    subst (All (λ (entry : Entry). IsHull entry.hull)) (sym listed)
    (all-hulls x (length x.probes) (tree_of x order) (tree-listed x order c.requires.none c.requires.most).hulls)

pub returns : goal.returns
returns c =
    let asked = c.args.question in
    let kept = c.args.netlist.now in
    let x = kept.instance in
    let tree = tree_of x asked.order in
    let listed : c.as_slice.result.now ≡ entries_of x tree =
    c.as_slice.ensures.value ∙ c.in_ok-list.ensures.entries ∙ ap (entries_of x) c.requires.tree in
    let preorder = (tree-listed x asked.order c.requires.none c.requires.most).preorder in
    let families = roots-families x asked.order c.requires.none c.requires.most in
    if-ok c.write.result
    (λ (text : Vec ℕ Global). IsCertificate text.items c.header.result c.as_slice.result.now)
    (λ (text : Vec ℕ Global). IsCertificateOf asked kept text.items)
    (λ text says bytes keeps.
    let headed = subst (λ (h : Header). IsCertificate text.items h c.as_slice.result.now) (c.header.ensures bytes keeps) says in
    record {
      netlist = keeps.netlist;
      instance = x;
      means = record { accepted = keeps.accepted; instance = keeps.instance };
      certified = record {
        text = subst (λ (es : List Entry). IsCertificate text.items (header_of x asked.model asked.order) es) listed headed;
        closes = c.preorder_closes.ensures x (roots_of x asked.order) tree families preorder;
      };
    })
    c.write.ensures
