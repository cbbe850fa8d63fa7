mod GivenAnswers
mod Listed
mod OneResultMore
mod Plain
