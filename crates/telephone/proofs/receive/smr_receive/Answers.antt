use mathlib.Core.Path.{◌≡◌, sym, subst, ◌∙◌}
use lib.ListN.{length, drop}
use Rattle.octets.proofs.PartLaws.{rest_part_lem}
use Rattle.table.specs.Table.{entry_at}
use Rattle.deciding.specs.Steps.{picked_entry}
use Rattle.deciding.specs.Seen.{Keeps}
use Rattle.deciding.proofs.Keeps.{decide-keeps}
use Rattle.telephone.specs.Receive.{receive}
use Rattle.telephone.proofs.Paths.{shown-as}
use Rattle.telephone.proofs.receive.smr_receive.Goals as goal

pub act-acted-requires : goal.act-acted-requires
act-acted-requires c =
    let a = c.args in (c.decide-decision.ensures.ready, (c.decide-decision.ensures.decides.1, subst (Keeps (entry_at a.table.now (picked_entry a.message.now))) (sym c.decide-decision.ensures.decides.0) (decide-keeps a.table.now a.message.now (length a.reply.now))))

pub show-requires : goal.show-requires
show-requires c =
    let p : c.part-s.result.now ≡ drop 2 c.args.message.now = c.part-s.ensures.octets ∙ rest_part_lem 2 c.args.message.now in
    rw p (c.decide-decision.ensures.decides.1.0, c.act-acted.ensures.returned.1.1.1)

pub returns : goal.returns
unfolding receive
returns c =
    let a = c.args in
    let p : c.part-s.result.now ≡ drop 2 a.message.now = c.part-s.ensures.octets ∙ rest_part_lem 2 a.message.now in
    record {
      returned = rw (← c.decide-decision.ensures.decides.0) (shown-as a.table.now a.message.now a.reply.now c.decide-decision.result c.act-acted.result _ c.show.result c.decide-decision.ensures.ready c.decide-decision.ensures.decides.1 p c.act-acted.ensures.returned c.show.ensures);
      reply = rw (← c.decide-decision.ensures.decides.0) c.act-acted.ensures.reply;
      table = rw (← c.decide-decision.ensures.decides.0) c.act-acted.ensures.table;
    }
