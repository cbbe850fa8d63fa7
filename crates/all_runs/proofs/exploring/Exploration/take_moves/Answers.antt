use Rattle.all_runs.proofs.Growing.{if_ok, taken_admission, taken_admissions, taken_segment}
use Rattle.all_runs.proofs.exploring.Exploration.take_moves.Goals as goal

pub returns-in-Segment-clause-taken : goal.returns-in-Segment-clause-taken
returns-in-Segment-clause-taken c =
    let found = c.take.new.self in
    if_ok c.take.result
    (λ known. λ run is. taken_segment c.args.p.now c.args.lim found.going found.ended run.state c.in-Segment.task (c.in-Segment.ensures run is) (known run is)) c.take.ensures.taken

pub returns-in-Admission-clause-taken : goal.returns-in-Admission-clause-taken
returns-in-Admission-clause-taken c =
    let found = c.take-in-Admission.new.self in
    if_ok c.take-in-Admission.result
    (λ known. λ run is. taken_admission c.args.p.now c.args.lim found.going found.ended run.state c.in-Admission.task (c.in-Admission.ensures run is) (known run is))
    c.take-in-Admission.ensures.taken

pub returns-in-EachAdmission-clause-taken : goal.returns-in-EachAdmission-clause-taken
returns-in-EachAdmission-clause-taken c =
    let found = c.take_admissions.new.self in
    if_ok c.take_admissions.result
    (λ known. λ run is. taken_admissions c.args.p.now c.args.lim found.going found.ended run.state (c.in-EachAdmission.ensures run is) (λ t may. known run t is may))
    c.take_admissions.ensures.taken
