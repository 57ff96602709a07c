-- Laws of the calls read and write, and of what their answers mean.
pub mod ReadCall
pub mod ReadMeaning
pub mod WriteCall
pub mod WriteMeaning
