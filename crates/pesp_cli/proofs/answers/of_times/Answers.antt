use Rattle.std.proofs.Common.{inr}
use Rattle.pesp_check.proofs.ReadingLemmas.{told_as}
use Rattle.pesp_cli.proofs.Ends.{stopped, stopped_from, without_names, unless_named, with_names}
use Rattle.pesp_cli.proofs.answers.of_times.Goals as goal

pub returns-in_err-told-in-Picture-clause-stopped : goal.returns-in_err-told-in-Picture-clause-stopped
returns-in_err-told-in-Picture-clause-stopped g c =
    let none = c.in_err-told-in-Picture.ensures in
    rw c.in-Picture.is (told_as _ _ _ c.from_residual.ensures.1 (unless_named _ _ _ none))

pub returns-in_ok-told-in-Picture-clause-stopped : goal.returns-in_ok-told-in-Picture-clause-stopped
returns-in_ok-told-in-Picture-clause-stopped g c =
    let run = c.run_sheet in
    rw c.in-Picture.is (stopped_from run.result _ _ _ run.ensures.cause (λ fault h. with_names _ _ _ h) c.done.ensures)

pub returns-in_ok-told-in-Picture-clause-silent : goal.returns-in_ok-told-in-Picture-clause-silent
returns-in_ok-told-in-Picture-clause-silent g c =
    let run = c.run_sheet in
    stopped run.result _ _ run.ensures.silent c.done.ensures

pub returns-in_err-told-in-Diagrams-clause-stopped : goal.returns-in_err-told-in-Diagrams-clause-stopped
returns-in_err-told-in-Diagrams-clause-stopped g c =
    let none = c.in_err-told-in-Diagrams.ensures in
    rw c.in-Diagrams.is (told_as _ _ _ c.from_residual-in_err-told-in-Diagrams.ensures.1 (without_names _ _ none))

pub returns-in_ok-told-in-Diagrams-clause-stopped : goal.returns-in_ok-told-in-Diagrams-clause-stopped
returns-in_ok-told-in-Diagrams-clause-stopped g c =
    let run = c.run_sheet-in-Diagrams in
    rw c.in-Diagrams.is (stopped_from run.result _ _ _ run.ensures.cause (λ fault h. inr (inr h)) c.done-in-Diagrams.ensures)

pub returns-in_ok-told-in-Diagrams-clause-silent : goal.returns-in_ok-told-in-Diagrams-clause-silent
returns-in_ok-told-in-Diagrams-clause-silent g c =
    let run = c.run_sheet-in-Diagrams in
    stopped run.result _ _ run.ensures.silent c.done-in-Diagrams.ensures

pub returns-in_err-told-in-Timetable-clause-stopped : goal.returns-in_err-told-in-Timetable-clause-stopped
returns-in_err-told-in-Timetable-clause-stopped g c =
    let none = c.in_err-told-in-Timetable.ensures in
    rw c.in-Timetable.is (told_as _ _ _ c.from_residual-in_err-told-in-Timetable.ensures.1 (unless_named _ _ _ none))

pub returns-in_ok-told-in-Timetable-clause-stopped : goal.returns-in_ok-told-in-Timetable-clause-stopped
returns-in_ok-told-in-Timetable-clause-stopped g c =
    let run = c.run_sheet-in-Timetable in
    rw c.in-Timetable.is (stopped_from run.result _ _ _ run.ensures.cause (λ fault h. with_names _ _ _ h) c.done-in-Timetable.ensures)

pub returns-in_ok-told-in-Timetable-clause-silent : goal.returns-in_ok-told-in-Timetable-clause-silent
returns-in_ok-told-in-Timetable-clause-silent g c =
    let run = c.run_sheet-in-Timetable in
    stopped run.result _ _ run.ensures.silent c.done-in-Timetable.ensures

pub returns-in_err-told-in-Page-clause-stopped : goal.returns-in_err-told-in-Page-clause-stopped
returns-in_err-told-in-Page-clause-stopped g c =
    let none = c.in_err-told-in-Page.ensures in
    rw c.in-Page.is (told_as _ _ _ c.from_residual-in_err-told-in-Page.ensures.1 (unless_named _ _ _ none))

pub returns-in_ok-told-in-Page-clause-stopped : goal.returns-in_ok-told-in-Page-clause-stopped
returns-in_ok-told-in-Page-clause-stopped g c =
    let run = c.run_sheet-in-Page in
    rw c.in-Page.is (stopped_from run.result _ _ _ run.ensures.cause (λ fault h. with_names _ _ _ h) c.done-in-Page.ensures)

pub returns-in_ok-told-in-Page-clause-silent : goal.returns-in_ok-told-in-Page-clause-silent
returns-in_ok-told-in-Page-clause-silent g c =
    let run = c.run_sheet-in-Page in
    stopped run.result _ _ run.ensures.silent c.done-in-Page.ensures
