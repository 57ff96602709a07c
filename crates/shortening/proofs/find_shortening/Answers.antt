-- `shortening::find_shortening` meets its contract. The invariants of the three loops: nothing is found before slot k, nor with slot k by a
-- slot that is no longer left, nor with those two slots before the form.
use Rattle.std.proofs.Common.{ap, arith, length, ◌∙◌}
use Rattle.shortening.proofs.Searching.{changed_end, form_there, forms_counted, forms_found, forms_passed, others_end, others_next, pair_passed, pair_tried}
use Rattle.shortening.proofs.find_shortening.Goals as goal
use Rattle.shortening.proofs.find_shortening.Goals.{then-is_close+else-size-c, else-is_close, then-is_worth_trying+else-loop-form-test, else-is_worth_trying}

pub loop-form-preserved : goal.loop-form-preserved
loop-form-preserved c =
    let tried = c.loop-form.invariant in
    let o = c.loop-i.invariant.others in
    let form = form_there c.loop-form.form-index _ c.loop-form-test.true in
    record {
      forms = elim c.if-is_close.branch [
        | then-is_close+else-size-c w ↦
            rw w.most-is (forms_counted _ o.changed.freely _ _ _ _ tried.forms form _ (rw tried.same at w.seam_of-c.ensures.seam) _ w.max-most.ensures
            (omega (arith, w.if-size-c.false)))
        | else-is_close w ↦
            rw w.most-is (forms_passed _ o.changed.freely _ _ _ _ tried.forms form (rw tried.same at (c.is_close.ensures w.if-is_close.false)))
      ];
      most_fits = elim c.if-is_close.branch [
        | then-is_close+else-size-c w ↦ omega (arith, w.seam_of-c.ensures.most)
        | else-is_close w ↦ omega arith
      ];
      nothing = tried.nothing;
      same = tried.same;
      sized = tried.sized;
    }

pub mark-requires-clause-failed : goal.mark-requires-clause-failed
mark-requires-clause-failed c =
    let now = c.loop-i.invariant in
    let freely = now.others.changed.freely in
    rw now.same (elim c.if-is_worth_trying.branch [
      | then-is_worth_trying+else-loop-form-test w ↦
          (pair_tried _ freely _ _ w.loop-form.invariant.forms w.loop-form-test.false w.loop-form.auto.form-index-end w.most-is).failed
      | else-is_worth_trying w ↦
          (pair_passed _ freely _ _ _ (c.system-system.ensures.system ∙ now.same) (c.is_worth_trying.ensures w.if-is_worth_trying.false) w.most-is).failed
    ])

pub mark-requires-then-most-whole-clause-failed : goal.mark-requires-then-most-whole-clause-failed
mark-requires-then-most-whole-clause-failed c =
    let now = c.loop-i.invariant in
    let freely = now.others.changed.freely in
    rw (c.mark.ensures, now.same) (elim c.if-is_worth_trying.branch [
      | then-is_worth_trying+else-loop-form-test w ↦
          (pair_tried _ freely _ _ w.loop-form.invariant.forms w.loop-form-test.false w.loop-form.auto.form-index-end w.most-is).back
          (omega (arith, now.whole, c.if-most-whole.true))
      | else-is_worth_trying w ↦
          (pair_passed _ freely _ _ _ (c.system-system.ensures.system ∙ now.same) (c.is_worth_trying.ensures w.if-is_worth_trying.false) w.most-is).back
          (omega (arith, now.whole, c.if-most-whole.true))
    ])

pub loop-i-preserved-then-most-whole : goal.loop-i-preserved-then-most-whole
loop-i-preserved-then-most-whole c =
    let now = c.loop-i.invariant in
    let freely = now.others.changed.freely in
    let turn = c.in-Some.ensures.steps in
    record {
      same = c.mark-then-most-whole.ensures ∙ c.mark.ensures ∙ now.same;
      others = elim c.if-is_worth_trying.branch [
        | then-is_worth_trying+else-loop-form-test w ↦
            let tried = w.loop-form.invariant in
            let pair = pair_tried _ freely _ _ tried.forms w.loop-form-test.false w.loop-form.auto.form-index-end w.most-is in
            others_next _ _ _ now.others (w.found-is ∙ tried.nothing) turn.1.1 pair.failed turn.0 turn.1.2
        | else-is_worth_trying w ↦
            let small = c.is_worth_trying.ensures w.if-is_worth_trying.false in
            let pair = pair_passed _ freely _ _ _ (c.system-system.ensures.system ∙ now.same) small w.most-is in
            others_next _ _ _ now.others (w.found-is ∙ now.others.changed.nothing) turn.1.1 pair.failed turn.0 turn.1.2
      ];
      whole = now.whole;
    }

pub search-preserved : goal.search-preserved
search-preserved c =
    let left = c.loop-i.invariant in
    record { same = left.same; changed = others_end _ _ left.others c.in-None.ensures.steps.1.0 }

pub returns-after-search-clause-found : goal.returns-after-search-clause-found
returns-after-search-clause-found c =
    let n = ap length c.system.ensures.system in
    changed_end _ _ c.search.invariant.changed (omega arith) (omega arith)

pub returns-then-size-c-clause-found : goal.returns-then-size-c-clause-found
returns-then-size-c-clause-found c =
    let tried = c.loop-form.invariant in
    let o = c.loop-i.invariant.others in
    let form = form_there c.loop-form.form-index _ c.loop-form-test.true in
    let turn = c.in-Some.ensures.steps.1 in
    forms_found _ o.changed.freely _ _ _ _ tried.forms form _ (rw tried.same at c.seam_of-c.ensures.seam) o
    turn.1 o.k_inside (omega (arith, o.within, turn)) (c.is_fresh.ensures.fresh c.if-is_fresh.true) c.loop-form-test.true
    (omega (arith, tried.sized, c.if-size-c.true))
