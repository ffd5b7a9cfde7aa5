use Rattle.std.proofs.Common.{List, length, subst}
use Rattle.std.specs.List.{range_with_len}
use Rattle.std.specs.List.Sorted.{IsPermutation}
use Rattle.wsyntax.specs.declared.module.Export.{Export}
use Rattle.wsyntax.specs.Modules.{module_shape}
use Rattle.accepted_module.specs.Exports.{AreAscending}
use Rattle.accepted_module.proofs.Lendings.{shaped_same, looked_same, typed_same, identified_same, paired_same, few_same}
use Rattle.accepted_module.proofs.accepted.Accepted.of.Goals as goal

-- What the shapes ask for.

-- rule 3 is kept
pub layouts_of_frames-requires-clause-typed : goal.layouts_of_frames-requires-clause-typed
layouts_of_frames-requires-clause-typed c =
    typed_same c.args.«module».types c.deref-3.result.now c.args.«module».functions.items c.deref-3.ensures.value (c.requires.judged.rules 3)

pub layouts_of_frames-requires-clause-identified : goal.layouts_of_frames-requires-clause-identified
layouts_of_frames-requires-clause-identified c =
    identified_same c.args.«module».types c.deref-2.result.now c.in_ok-type_ids.type_ids.items c.deref-2.ensures.value c.in_ok-type_ids.ensures

pub layouts_of_frames-requires-clause-paired : goal.layouts_of_frames-requires-clause-paired
layouts_of_frames-requires-clause-paired c =
    paired_same c.deref-3.result.now c.deref-4.result.now c.args.bodies.items (module_shape c.args.«module») c.args.context c.deref-3.ensures.value c.deref-4.ensures.value c.requires.judged

pub layouts_of_frames-requires-clause-few : goal.layouts_of_frames-requires-clause-few
layouts_of_frames-requires-clause-few c = few_same c.deref-4.result.now c.args.bodies.items (module_shape c.args.«module») c.args.context c.deref-4.ensures.value c.requires.judged

-- What the layout asks for.

pub of-requires-clause-few : goal.of-requires-clause-few
of-requires-clause-few c = record { elements = c.requires.small.elements; segments = c.requires.small.segments }

-- rule 12 is kept
pub of-requires-clause-elements : goal.of-requires-clause-elements
of-requires-clause-elements c = c.requires.judged.rules 12

-- rule 13 is kept
pub of-requires-clause-segments : goal.of-requires-clause-segments
of-requires-clause-segments c = c.requires.judged.rules 13

-- What the search for floats asks for.

-- rule 8 is kept
pub module_has_floats-uses_floats-requires-clause-globals : goal.module_has_floats-uses_floats-requires-clause-globals
module_has_floats-uses_floats-requires-clause-globals c = c.requires.judged.rules 8

pub module_has_floats-uses_floats-requires-clause-elements : goal.module_has_floats-uses_floats-requires-clause-elements
module_has_floats-uses_floats-requires-clause-elements c = c.requires.judged.rules 12

pub module_has_floats-uses_floats-requires-clause-segments : goal.module_has_floats-uses_floats-requires-clause-segments
module_has_floats-uses_floats-requires-clause-segments c = c.requires.judged.rules 13

-- What the holders know.

pub invariant_of-result-clause-judged : goal.invariant_of-result-clause-judged
invariant_of-result-clause-judged c = ∣ c.requires.judged ∣₁

pub invariant_of-result-clause-small : goal.invariant_of-result-clause-small
invariant_of-result-clause-small c = ∣ c.requires.small ∣₁

-- rule 10 is kept
pub invariant_of-result-clause-distinct : goal.invariant_of-result-clause-distinct
invariant_of-result-clause-distinct c = c.requires.judged.rules 10

pub invariant_of-result-clause-each : goal.invariant_of-result-clause-each
invariant_of-result-clause-each c =
    ∣ subst (λ (es : List Export). IsPermutation (range_with_len 0 (length es)) c.in_ok-by_name.by_name.items) c.deref.ensures.value c.in_ok-by_name.ensures.each ∣₁

pub invariant_of-result-clause-ascending : goal.invariant_of-result-clause-ascending
invariant_of-result-clause-ascending c = subst (λ (es : List Export). AreAscending es c.in_ok-by_name.by_name.items) c.deref.ensures.value c.in_ok-by_name.ensures.ascending

pub invariant_of-result-clause-identified : goal.invariant_of-result-clause-identified
invariant_of-result-clause-identified c =
    ∣ c.in_ok-type_ids.ensures ∣₁

pub invariant_of-result-clause-shaped : goal.invariant_of-result-clause-shaped
invariant_of-result-clause-shaped c =
    shaped_same _ c.args.«module».types c.deref-2.result.now c.in_ok-type_ids.type_ids.items c.deref-3.result.now c.args.«module».functions.items c.deref-4.result.now c.args.bodies.items
    c.deref-2.ensures.value c.deref-3.ensures.value c.deref-4.ensures.value c.in_ok-shapes.ensures

pub invariant_of-result-clause-looked : goal.invariant_of-result-clause-looked
invariant_of-result-clause-looked c =
    looked_same c.module_has_floats-uses_floats.result (module_shape c.args.«module») c.deref-5.result.now c.args.bodies.items c.deref-5.ensures.value c.module_has_floats-uses_floats.ensures
