-- Verdicts that are told as an option: none, or what is wrong.
use Rattle.std.proofs.Common.{◌≡◌, Option, Some, None, Result, Ok, Err, true, false}
use Rattle.std.specs.Prelude.{is_some, IfNone, IfOk, MatchOption}
use Rattle.pesp_judges.specs.declared.refusal.Refusal.{Refusal}

-- what follows from either side
pub match_map : (found : Option Refusal) (P P' : Type 0) (Q Q' : Refusal → Type 0) → (P → P')
    → ((refusal : Refusal) → Q refusal → Q' refusal) → MatchOption found P Q → MatchOption found P' Q'
match_map None P P' Q Q' f g h = f h
match_map (Some refusal) P P' Q Q' f g h = g refusal h

-- something is wrong
pub match_some : (found : Option Refusal) (P P' : Type 0) (Q Q' : Refusal → Type 0) → is_some found ≡ true
    → ((refusal : Refusal) → Q refusal → Q' refusal) → MatchOption found P Q → MatchOption found P' Q'
match_some None P P' Q Q' e g h = cc
match_some (Some refusal) P P' Q Q' e g h = g refusal h

-- nothing is wrong
pub match_none : (found : Option Refusal) (P : Type 0) (Q : Refusal → Type 0) → is_some found ≡ false → MatchOption found P Q → P
match_none None P Q e h = h
match_none (Some refusal) P Q e h = cc

pub none_then : (found : Option Refusal) (P : Type 0) → is_some found ≡ false → IfNone found P → P
none_then None P e h = h
none_then (Some refusal) P e h = cc

-- something else is wrong
pub of_some : (found : Option Refusal) (P R : Type 0) (Q S : Refusal → Type 0) → is_some found ≡ true → MatchOption found R S
    → ((refusal : Refusal) → S refusal → Q refusal) → MatchOption found P Q
of_some None P R Q S e h f = cc
of_some (Some refusal) P R Q S e h f = f refusal h

pub ok_then : {A E : Type 0} (r : Result A E) (P Q : A → Type 0) → IfOk r P → ((x : A) → P x → Q x) → IfOk r Q
ok_then (Ok x) P Q h f = f x h
ok_then (Err e) P Q h f = tt
