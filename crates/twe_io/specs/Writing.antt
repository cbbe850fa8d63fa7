-- How the writing of texts went, by its result.
use Rattle.std.specs.Prelude.{◌≡◌, ◌⊎◌, List, ℕ, Result, Ok, Err}
use Rattle.twe_io.specs.Ends.{SinkTells, Took, BrokeOff}

-- one text
abbrev pub Wrote : {K E : Type 0} → SinkTells K → List ℕ → K → Result Unit E → K → Type 0
Wrote tells text before (Ok done) after = Took tells text before after
Wrote tells text before (Err fault) after = BrokeOff tells text before after

-- a text for out, and then a text for err
abbrev pub WroteBoth : {O E F : Type 0} → SinkTells O → SinkTells E → List ℕ → List ℕ → O → O → E → E → Result Unit F → Type 0
WroteBoth out err for_out for_err out_from out_to err_from err_to (Ok done) =
    Took out for_out out_from out_to × Took err for_err err_from err_to
WroteBoth out err for_out for_err out_from out_to err_from err_to (Err fault) =
    (BrokeOff out for_out out_from out_to × (err_to ≡ err_from))
    ⊎ (Took out for_out out_from out_to × BrokeOff err for_err err_from err_to)
