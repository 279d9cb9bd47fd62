use Rattle.std.proofs.Common.{ℕ, ap, ◌∙◌, string_bytes}
use Rattle.std.specs.Arc.{arc_value}
use Rattle.rand_pcg.specs.Lcg.{Lcg}
use Rattle.sc_gen.specs.Draws.{behind, generator_of}
use Rattle.sc_gen.specs.Generated.{IsGeneratedItem}
use Rattle.sc_gen.proofs.Words.{four_more, none_before}
use Rattle.sc_gen.proofs.Items.{more, made, none}
use Rattle.sc_gen.proofs.loads.items_of.Goals as goal

pub loop-number-init : goal.loop-number-init
loop-number-init c = record {
  words = c.new-words.ensures ∙ none_before (generator_of c.args.seed c.args.load);
  items = none arc_value c.args.seed c.args.load c.in_ok-items.items.items c.in_ok-items.ensures.items;
}

pub loop-number-preserved : goal.loop-number-preserved
loop-number-preserved c =
    let number : ℕ = c.loop-number.number in
    let first : Lcg = generator_of c.args.seed c.args.load in
    let is : IsGeneratedItem c.args.seed c.args.load number c.in_ok-item.item =
    made c.args.seed c.args.load number c.args.collection.now (string_bytes c.in_ok-text.text) c.as_str.result.now c.of-draw.result c.loop-number.words c.in_ok-item.item
    c.requires c.loop-number.invariant.words c.of-draw.ensures.draw c.in_ok-text.ensures c.as_str.ensures.value c.in_ok-item.ensures in
    record {
      words = c.of-draw.ensures.behind ∙ ap (behind 4) c.loop-number.invariant.words ∙ four_more number first;
      items =
          more arc_value c.args.seed c.args.load number c.loop-number.items.items c.push.new.self.items c.in_ok-new.field-0 c.in_ok-item.item
          c.loop-number.invariant.items is c.in_ok-push.ensures.items c.in_ok-new.ensures.ok;
    }
