-- How many cells a run starts with.
mod Cells
-- A crew stays one of its program.
mod RunOfCrew
